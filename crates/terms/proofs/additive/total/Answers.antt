use Rattle.std.proofs.Common.{◌+◌, ap, arith}
use Rattle.std.proofs.lemmas.List.Sums.{sum_by_more, sum_by-take-le}
use Rattle.terms.proofs.additive.total.Goals as goal

pub sum-sum-requires : goal.sum-sum-requires
sum-sum-requires g c =
    let xs = c.args.items.now in
    let i = c.loop-x.x-index in
    let x = c.x-item.result in
    let size = g.T.Additive.size in
    let more = sum_by_more size xs i x c.loop-x-test.true in
    let here = ap size c.x-item.is in
    omega (arith, more, here, sum_by-take-le size xs (i + 1), c.loop-x.invariant.1)
