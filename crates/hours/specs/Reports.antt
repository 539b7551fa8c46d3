-- What is printed for an input.
use Rattle.std.specs.Prelude.{◌≡◌, ℕ, cond, List, [], ◌∷◌, ◌++◌, Ok, Err, decimal, Result, ◌==◌}
use Rattle.terms.specs.Refusals.{number_of}
use Rattle.terms.specs.declared.refusal.Refusal.{Refusal}
use Rattle.terms.specs.declared.refusal.Refusal.TheVariants.{Form}
use Rattle.text.specs.Lines.{Lacks, fields_of}
use Rattle.hours.specs.Answers.{Delivery, answer_of, written}

-- the line for an answer: what it says, or the refusal's number, and the line's end (10)
abbrev pub told : Result Delivery Refusal → List ℕ
told (Ok d) = written d ++ 10 ∷ []
told (Err e) = decimal (number_of e) ++ 10 ∷ []

-- bytes that no line's end follows are wrong in form, where there are any
abbrev pub told_last : List ℕ → List ℕ
told_last [] = []
told_last (b ∷ bs) = told (Err Form)

-- the answers to what is left of an input, where w is the part of a line that has been read
abbrev pub report_from : List ℕ → List ℕ → List ℕ
report_from w [] = told_last w
report_from w (b ∷ bs) = cond (b == 10) (told (answer_of (fields_of w)) ++ report_from [] bs) (report_from (w ++ b ∷ []) bs)

abbrev pub report_of : List ℕ → List ℕ
report_of input = report_from [] input

-- Each line is answered by itself, in order, and what no line's end follows is refused.
pub record LineByLine : Type 0 where
  pub line : (w rest : List ℕ) → Lacks 10 w → report_of (w ++ 10 ∷ rest) ≡ told (answer_of (fields_of w)) ++ report_of rest
  pub last : (w : List ℕ) → Lacks 10 w → report_of w ≡ told_last w
