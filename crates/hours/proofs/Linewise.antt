-- The report on a line, and on what follows it.
use Rattle.std.proofs.Common.{◌≡◌, ℕ, true, false, eqb, List, [], ◌∷◌, ◌++◌, length, Err, Result, sym, refl, ap, ◌∙◌, append_assoc, arith}
use Rattle.std.proofs.lemmas.List.{append-nil}
use Rattle.std.proofs.lemmas.Bool.{eqb-true, eqb-false, ne_eqb}
use Rattle.terms.specs.declared.refusal.Refusal.{Refusal}
use Rattle.terms.specs.declared.refusal.Refusal.TheVariants.{Form}
use Rattle.text.specs.Fields.{Piece}
use Rattle.text.specs.Lines.{Lacks, fields_of}
use Rattle.hours.specs.Answers.{Delivery, answer_of}
use Rattle.hours.specs.Reports.{told, told_last, report_from, report_of, LineByLine}

line_from_is : (v w rest : List ℕ) → Lacks 10 w → report_from v (w ++ 10 ∷ rest) ≡ told (answer_of (fields_of (v ++ w))) ++ report_of rest
line_from_is v [] rest h = rw append-nil
line_from_is v (b ∷ w) rest h = rw (ne_eqb b 10 h.0, ← append_assoc v (b ∷ []) w) (line_from_is (v ++ b ∷ []) w rest h.1)

last_from : (v w : List ℕ) → Lacks 10 w → report_from v w ≡ told_last (v ++ w)
last_from v [] h = rw append-nil
last_from v (b ∷ w) h = rw (ne_eqb b 10 h.0, ← append_assoc v (b ∷ []) w) (last_from (v ++ b ∷ []) w h.1)

pub line_by_line : LineByLine
line_by_line = record { line = line_from_is []; last = last_from [] }

-- one line more
pub one_more : (input done bs w rest more : List ℕ) (found : Result Delivery Refusal) (fields : List Piece) → done ++ report_of bs ≡ report_of input → (bs ≡ w ++ 10 ∷ rest) × Lacks 10 w → more ≡ done ++ told found → found ≡ answer_of fields → fields ≡ fields_of w → more ++ report_of rest ≡ report_of input
one_more input done bs w rest more found fields inv cut added is split =
    rw (added, is, split, append_assoc done (told (answer_of (fields_of w))) (report_of rest), ← line_from_is [] w rest cut.1, ← cut.0) inv

-- no line is left, but some bytes are
pub last_some : (input done bs more : List ℕ) → done ++ report_of bs ≡ report_of input → Lacks 10 bs → eqb (length bs) 0 ≡ false → more ≡ done ++ told (Err Form) → more ≡ report_of input
last_some input done [] more inv cut some added = absurd (eqb-false 0 0 some refl)
last_some input done (b ∷ bs) more inv cut some added = added ∙ ap (λ t. done ++ t) (sym (last_from [] (b ∷ bs) cut)) ∙ inv

-- nothing is left
pub last_none : (input done bs more : List ℕ) → done ++ report_of bs ≡ report_of input → eqb (length bs) 0 ≡ true → more ≡ done → more ≡ report_of input
last_none input done [] more inv none same = same ∙ sym (append-nil done) ∙ inv
last_none input done (b ∷ bs) more inv none same = let z = eqb-true (length (b ∷ bs)) 0 none in absurd (omega arith)
