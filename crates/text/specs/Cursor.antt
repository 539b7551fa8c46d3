-- The fields of a line, taken one after another.
use Rattle.std.specs.Prelude.{◌≡◌, ℕ, List, [], ◌∷◌, map, ℤ, Ok, Err, Result}
use Rattle.std.specs.Borrow.{Bor}
use Rattle.terms.specs.declared.refusal.Refusal.{Refusal}
use Rattle.terms.specs.declared.refusal.Refusal.TheVariants.{Form}
use Rattle.text.specs.Chain.{◌then◌}
use Rattle.text.specs.Fields.{Piece, a_word, a_number, see}
use Rattle.text.specs.declared.field.Field.{Field}

-- a field that is a word of one byte
abbrev pub letter_in : Piece → Result ℕ Refusal
letter_in (a_word []) = Err Form
letter_in (a_word (c ∷ [])) = Ok c
letter_in (a_word (c ∷ d ∷ cs)) = Err Form
letter_in (a_number z) = Err Form

-- a field that is a number
abbrev pub number_in : Piece → Result ℤ Refusal
number_in (a_word w) = Err Form
number_in (a_number z) = Ok z

-- what the fields begin with, and the other fields
abbrev pub first_by : {X : Type 0} → (Piece → Result X Refusal) → List Piece → Result (X × List Piece) Refusal
first_by reads [] = Err Form
first_by reads (p ∷ ps) = reads p then λ x. Ok (x, ps)

-- the letter that the fields begin with, and the other fields
abbrev pub letter_first : List Piece → Result (ℕ × List Piece) Refusal
letter_first ps = first_by letter_in ps

-- the number that the fields begin with, and the other fields
abbrev pub number_first : List Piece → Result (ℤ × List Piece) Refusal
number_first ps = first_by number_in ps

-- no field is left
abbrev pub no_more : List Piece → Result (Unit {0}) Refusal
no_more [] = Ok tt
no_more (p ∷ ps) = Err Form

-- what was taken, and what the other fields stand for
abbrev pub taken : {X : Type 0} → Result (X × Bor (List Field)) Refusal → Result (X × List Piece) Refusal
taken (Ok p) = Ok (p.0, map see p.1.now)
taken (Err e) = Err e

-- where `told` says what the reading of a field may answer: that answer, of the first field, and the other fields
abbrev pub TakesFirst : {X : Type 0} → (Field → Result X Refusal → Type 0) → List Field → Result (X × Bor (List Field)) Refusal → Type 0
TakesFirst told [] r = r ≡ Err Form
TakesFirst told (f ∷ fs) (Ok p) = told f (Ok p.0) × (p.1.now ≡ fs)
TakesFirst told (f ∷ fs) (Err e) = told f (Err e)
