-- Numbers of a line, each in its own type.
use Rattle.std.specs.Prelude.{List, ℤ, Ok, Result}
use Rattle.terms.specs.declared.refusal.Refusal.{Refusal}
use Rattle.text.specs.Chain.{◌then◌}
use Rattle.text.specs.Cursor.{number_first}
use Rattle.text.specs.Fields.{Piece}

-- the number that the fields begin with, narrowed, and the other fields
abbrev pub narrow_first : {X : Type 0} → (ℤ → X) → List Piece → Result (X × List Piece) Refusal
narrow_first narrow fields = number_first fields then λ n. Ok (narrow n.0, n.1)
