use Rattle.std.proofs.Common.{◌+◌, ◌*◌, ◌/◌, ap}
use Rattle.days.specs.Months.{month_of}
use Rattle.days.proofs.months.month_of.Goals as goal

pub returns : goal.returns
unfolding month_of
returns c = ap (λ k. 48 * (c.args.day / 1461) + k) c.month_in_cycle.ensures.value
