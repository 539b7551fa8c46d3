use Rattle.std.proofs.Common.{◌≡◌, ◌≤◌, take}
use Rattle.terms.specs.Laws.{added, sizes}
use Rattle.terms.proofs.additive.total.Given as goal

abbrev pub invariant-loop-x : goal.invariant-loop-x
invariant-loop-x g l =
    (l.sum ≡ added g.T.Additive.none g.T.Additive.plus (take l.x-index l.items))
    × (g.T.Additive.size l.sum ≤ sizes g.T.Additive.size (take l.x-index l.items))
