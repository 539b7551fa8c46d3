use Rattle.std.proofs.Common.{◌≡◌, map, vec_items}
use Rattle.text.specs.Fields.{piece_of, see}
use Rattle.text.proofs.line.split_into.Given as goal

abbrev pub invariant-loop-word : goal.invariant-loop-word
invariant-loop-word l = map see (vec_items l.fields) ≡ map piece_of (map (λ w. w.now) l.yielded)
