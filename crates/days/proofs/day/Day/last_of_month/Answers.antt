use Rattle.std.proofs.Common.{◌+◌, ◌-◌, ap, ◌∙◌, arith}
use Rattle.days.specs.Months.{month_start, month_end}
use Rattle.days.proofs.Tiling.{last_within}
use Rattle.days.proofs.day.Day.last_of_month.Goals as goal

pub invariant_of-result : goal.invariant_of-result
invariant_of-result c = let e = c.start_of.ensures in let l = last_within c.month.result c.month.ensures.bound in record { within = omega arith }

pub returns-clause-value : goal.returns-clause-value
unfolding month_end
returns-clause-value c = ap (λ n. n - 1) (c.start_of.ensures ∙ ap (λ m. month_start (m + 1)) c.month.ensures.value)
