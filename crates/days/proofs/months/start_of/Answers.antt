use Rattle.std.proofs.Common.{◌+◌, ◌*◌, ◌/◌, ap}
use Rattle.days.specs.Months.{month_start}
use Rattle.days.proofs.months.start_of.Goals as goal

pub returns : goal.returns
unfolding month_start
returns c = ap (λ k. 1461 * (c.args.month / 48) + k) c.start_in_cycle.ensures.value
