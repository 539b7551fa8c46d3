use Rattle.std.proofs.Common.{◌%◌, slice_index, ap, arith}
use Rattle.days.specs.Months.{month_length, lengths}
use Rattle.days.proofs.Tiling.{length_usual}
use Rattle.days.proofs.months.length_of.Goals as goal

pub returns : goal.returns
unfolding month_length lengths
returns c =
    let value = ap (λ m. slice_index lengths (m % 48)) c.from.ensures in
    record { value = value; bound = omega (arith, length_usual c.args.month) }
