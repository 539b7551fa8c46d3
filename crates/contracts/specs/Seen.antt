-- What a line of the code stands for.
use Rattle.std.specs.Prelude.{ℕ, ◌+◌}
use Rattle.days.specs.Months.{month_of}
use Rattle.contracts.specs.Lines as spec
use Rattle.contracts.specs.declared.line.RestOf.{RestOf}
use Rattle.contracts.specs.declared.line.RestOf.TheVariants.{ThisMonth, NextMonth}
use Rattle.contracts.specs.declared.line.Line.{Line}
use Rattle.contracts.specs.declared.line.Line.TheVariants.{Day, Rest, Own}

-- the month, on a date
abbrev pub rest_month : ℕ → RestOf → ℕ
rest_month date ThisMonth = month_of date
rest_month date NextMonth = month_of date + 1

-- on a date
abbrev pub seen : ℕ → Line → spec.Line
seen date (Day u d) = spec.day u d.number
seen date (Rest u which) = spec.rest u (rest_month date which)
seen date (Own i) = spec.own i
