-- What becomes of a book under limits, by the calls that it takes.
use Rattle.std.specs.Prelude.{List, []}
use Rattle.books.specs.Answers.{answers, run}
use Rattle.books.specs.State.{State}
use Rattle.books.specs.declared.entry.Call.{Call}
use Rattle.ledger.specs.Meaning.{state_by}
use Rattle.ledger.specs.declared.ground.Ground.{Ground}
use Rattle.limits.specs.Layers.{under_limits}
use Rattle.limits.specs.declared.table.Limits.{Limits}

-- the table book on a ground, with nothing entered, under an agent limit under a member limit
abbrev pub opened : Ground → Limits → State
opened g l = under_limits l (state_by g.tables [])

-- the book after all calls
abbrev pub ended : State → List Call → State
ended s calls = run s calls (answers s calls)
