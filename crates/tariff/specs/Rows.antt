-- What the code's rows stand for. Names no struct that has the rules as its ghost fields.
use Rattle.std.specs.Prelude.{ℕ, List, take}
use Rattle.contracts.specs.Seen.{seen}
use Rattle.tariff.specs.Said.{Rated, Ranged}
use Rattle.tariff.specs.declared.rows.GroupRange.{GroupRange}
use Rattle.tariff.specs.declared.rows.RiskLine.{RiskLine}
use Rattle.tariff.specs.declared.rows.Step.{Step}
use Rattle.tariff.specs.declared.rows.Steps.{Steps}

-- the limits in use
abbrev pub steps_in : Steps → List Step
steps_in s = take s.used s.each

abbrev pub ranged : GroupRange → Ranged
ranged r = record { group = r.group; range = r.range; steps = steps_in r.steps }

-- on a date
abbrev pub rated : ℕ → RiskLine → Rated
rated date r = record { line = seen date r.line; risk = r.risk }
