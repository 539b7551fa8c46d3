use Rattle.std.proofs.Common.{◌≡◌, ◌≤◌, drop}
use Rattle.text.specs.Numbers.{largest}
use Rattle.text.proofs.Numbers.{left}
use Rattle.text.proofs.field.magnitude.Given as goal

abbrev pub invariant-loop-d : goal.invariant-loop-d
invariant-loop-d l = (l.v ≤ largest) × (left l.v (drop l.d-index l.ds) ≡ left 0 l.ds)
