use Rattle.std.proofs.Common.{take, sym, ◌∙◌, arith}
use Rattle.std.proofs.lemmas.Iterator.{YieldsList-from_slice}
use Rattle.std.proofs.lemmas.Iterator.Consumers.{sum_from_yields_List, fits_from_yields_list}
use Rattle.days.specs.Months.{lengths}
use Rattle.days.proofs.Tiling.{start_sum, start_small}
use Rattle.days.proofs.months.start_in_cycle.Goals as goal

pub sum-requires-clause-fits : goal.sum-requires-clause-fits
unfolding lengths
sum-requires-clause-fits c =
    let k = c.args.month in
    fits_from_yields_list c.iter.result _ (YieldsList-from_slice (take k lengths) cc) (omega (arith, start_sum lengths k, start_small k))

pub returns : goal.returns
unfolding lengths
returns c =
    let k = c.args.month in
    let value = sum_from_yields_List c.iter.result _ c.sum.ensures.ran (YieldsList-from_slice (take k lengths) cc) ∙ sym (start_sum lengths k) in
    record { value = value; bound = omega (arith, start_small k) }
