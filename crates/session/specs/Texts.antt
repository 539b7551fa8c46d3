-- What is printed.
use Rattle.std.specs.Prelude.{ℕ, List, [], ◌∷◌, ◌++◌, Ok, Err, codes, decimal, Result}
use Rattle.std.specs.List.{flat_map}
use Rattle.terms.specs.Refusals.{number_of}
use Rattle.terms.specs.declared.refusal.Refusal.{Refusal}
use Rattle.file.specs.declared.fault.Fault.{Fault}

-- 0 and the entry's number, or the refusal's number and 0
abbrev pub answer_text : Result ℕ Refusal → List ℕ
answer_text (Ok n) = codes "0 " ++ decimal n
answer_text (Err e) = decimal (number_of e) ++ codes " 0"

-- the refusal's number, and the line
abbrev pub fault_text : Fault → List ℕ
fault_text q = decimal (number_of q.refusal) ++ (codes " " ++ decimal q.line)

-- a line of text, with its end (10)
abbrev pub line : List ℕ → List ℕ
line bs = bs ++ 10 ∷ []

abbrev pub answer_lines : List (Result ℕ Refusal) → List ℕ
answer_lines = flat_map (λ (r : Result ℕ Refusal). line (answer_text r))
