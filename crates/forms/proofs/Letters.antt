-- The letter that some fields begin with.
use Rattle.std.proofs.Common.{◌≡◌, ℕ, ◌-◌, ◌<◌, Bool, true, false, List, [], ◌∷◌, map, length, get_or, take, drop, Ok, Err, refl, arith, Bor}
use Rattle.std.proofs.lemmas.List.{take_rest}
use Rattle.terms.specs.declared.refusal.Refusal.TheVariants.{Form}
use Rattle.text.specs.Cursor.{letter_in, letter_first}
use Rattle.text.specs.Fields.{see, a_word}
use Rattle.text.specs.declared.field.Field.{Field}
use Rattle.text.specs.declared.field.Field.TheVariants.{Word, Number}

-- the first field, with the default that the checker takes
abbrev pub start : List Field → Field
start fs = get_or fs 0 (Word (record { ref_ptr = (0, 0); now = [] }))

-- the rest of a slice behind its first element, as the checker reads it
abbrev pub others : List Field → List Field
others fs = take (length fs - 1) (drop 1 fs)

one_letter : (cs : List ℕ) (k : ℕ) → length cs ≡ 1 → get_or cs 0 0 ≡ k → letter_in (a_word cs) ≡ Ok k
one_letter [] k h e = absurd (omega arith)
one_letter (c ∷ []) k h e = rw e
one_letter (c ∷ d ∷ cs) k h e = absurd (omega arith)

pub letter_is_first : (fs : List Field) (w : Bor (List ℕ)) (k : ℕ) → 0 < length fs → start fs ≡ Word w → length w.now ≡ 1 → get_or w.now 0 0 ≡ k → letter_first (map see fs) ≡ Ok (k, map see (others fs))
letter_is_first [] w k h is one e = absurd (omega arith)
letter_is_first (f ∷ fs) w k h is one e = rw (take_rest (f ∷ fs) 1, is, one_letter w.now k one e)

abbrev pub is_word : Field → Bool
is_word (Word w) = true
is_word (Number z) = false

pub number_is_first : (fs : List Field) → 0 < length fs → is_word (start fs) ≡ false → letter_first (map see fs) ≡ Err Form
number_is_first [] h n = absurd (omega arith)
number_is_first (Number z ∷ fs) h n = refl
number_is_first (Word w ∷ fs) h n = let z : ◌≡◌ {A = ℕ} 0 1 = cc in absurd (omega arith)
