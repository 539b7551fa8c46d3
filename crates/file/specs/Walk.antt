-- The parts of a file, as they are read one after another.
use Rattle.std.specs.Prelude.{◌≡◌, ℕ, zero, suc, ◌+◌, cond, List, [], ◌∷◌, Some, None, Ok, Err, Option, Result}
use Rattle.std.specs.Borrow.{Bor}
use Rattle.std.specs.Str.{bytes_eq}
use Rattle.terms.specs.declared.refusal.Refusal.{Refusal}
use Rattle.terms.specs.declared.refusal.Refusal.TheVariants.{Form}
use Rattle.text.specs.Chain.{◌then◌}
use Rattle.text.specs.Fields.{Piece}
use Rattle.text.specs.Lines.{line_of, fields_of}
use Rattle.file.specs.declared.fault.Fault.{Fault}
use Rattle.file.specs.declared.fault.Unread.{Unread}
use Rattle.file.specs.declared.fault.Unread.TheVariants.{Refused, NoMemory}
use Rattle.file.specs.Plan.{at, title_is}

-- line n, and what follows it
abbrev pub on_text : {X : Type 0} → ℕ → Option (List ℕ × List ℕ) → (List ℕ → List ℕ → Result X Fault) → Result X Fault
on_text n None f = at n (Err Form)
on_text n (Some p) f = f p.0 p.1

abbrev pub with_rest : {X : Type 0} → List ℕ → X → Result (X × List ℕ) Fault
with_rest rest x = Ok (x, rest)

-- what the fields of line n say, and what follows it
abbrev pub line_at : {X : Type 0} → (List Piece → Result X Refusal) → ℕ → List ℕ → Result (X × List ℕ) Fault
line_at reads n bs = on_text n (line_of bs) (λ text rest. at n (reads (fields_of text)) then with_rest rest)

-- k rows from line n on
abbrev pub body_of : {V : Type 0} → (V → List Piece → Result V Refusal) → ℕ → ℕ → V → List ℕ → Result (V × List ℕ) Fault
body_of says zero n v bs = Ok (v, bs)
body_of says (suc k) n v bs = line_at (says v) n bs then λ p. body_of says k (n + 1) p.0 p.1

-- line n is the title; what follows it
abbrev pub title_at : ℕ → List ℕ → Result (List ℕ) Fault
title_at n bs = on_text n (line_of bs) (λ text rest. cond (bytes_eq text title_is) (Ok rest) (at n (Err Form)))

-- nothing is left
abbrev pub at_end : {V : Type 0} → ℕ → V → List ℕ → Result V Fault
at_end n v [] = Ok v
at_end n v (b ∷ bs) = at n (Err Form)

-- ---- what the code gives
-- the next line, and what is left behind it; or that it is not there
abbrev pub Texts : ℕ → List ℕ → List ℕ → Result (Bor (List ℕ)) Fault → Type 0
Texts n bs rest (Ok text) = line_of bs ≡ Some (text.now, rest)
Texts n bs rest (Err q) = (line_of bs ≡ None) × (q ≡ record { refusal = Form; line = n })

-- the number of the next line, its fields, and what is left behind it; or that it is not there
abbrev pub Next : ℕ → List ℕ → List ℕ → List Piece → Result ℕ Unread → Type 0
Next n bs rest ps (Ok line) = (line ≡ n) × ((text : List ℕ) × (line_of bs ≡ Some (text, rest)) × (fields_of text ≡ ps))
Next n bs rest ps (Err (Refused q)) = (line_of bs ≡ None) × (q ≡ record { refusal = Form; line = n })
Next n bs rest ps (Err NoMemory) = Unit {0}
