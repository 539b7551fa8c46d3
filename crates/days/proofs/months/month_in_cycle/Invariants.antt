use Rattle.std.proofs.Common.{◌≡◌, ◌+◌, drop}
use Rattle.days.specs.Months.{lengths, month_from}
use Rattle.days.proofs.months.month_in_cycle.Given as goal

abbrev pub invariant-loop-month : goal.invariant-loop-month
invariant-loop-month l = month_from lengths l.day ≡ l.month + month_from (drop l.month lengths) l.left
