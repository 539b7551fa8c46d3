-- How the book of a session opens, and what its calls are answered.
use Rattle.std.specs.Prelude.{◌≡◌, ℕ, List, [], vec_items, Result}
use Rattle.terms.specs.declared.refusal.Refusal.{Refusal}
use Rattle.books.specs.Answers.{answers}
use Rattle.books.specs.State.{State}
use Rattle.books.specs.declared.entry.Call.{Call}
use Rattle.opening.specs.declared.opening.Opening.{Opening}
use Rattle.ledger.specs.Meaning.{state_by}
use Rattle.ledger.specs.Starts.{Opens}
use Rattle.ledger.specs.declared.ground.Ground.{Ground}
use Rattle.limits.specs.Layers.{under_limits}
use Rattle.limits.specs.Openings.{under_both}
use Rattle.limits.specs.declared.table.Limits.{Limits}

-- the table book on a ground, with nothing entered, under tables of limits
abbrev pub opened : Ground → Limits → State
opened g limits = under_limits limits (state_by g.tables [])

-- a book that opens so answers so under the limits
pub record Answered (o : Opening) (calls : List Call) (rs : List (Result ℕ Refusal)) : Type 0 where
  pub book : State
  pub opens : Opens o book
  pub answered : rs ≡ answers (under_both (vec_items o.limits.rows) book) calls
