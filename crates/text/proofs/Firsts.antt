-- Where no field is left.
use Rattle.std.proofs.Common.{◌≡◌, ◌≤◌, List, [], ◌∷◌, map, length, refl, arith}
use Rattle.text.specs.Fields.{Piece, see}
use Rattle.text.specs.declared.field.Field.{Field}

pub at_none : {Y : Type 0} (F : List Piece → Y) (fs : List Field) → length fs ≤ 0 → F [] ≡ F (map see fs)
at_none F [] h = refl
at_none F (f ∷ fs) h = absurd (omega arith)
