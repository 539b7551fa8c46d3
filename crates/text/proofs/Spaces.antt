-- What `line_of` and `words_of` cut, put together again, is the text.
use Rattle.std.proofs.Common.{◌≡◌, ℕ, eqb, List, [], ◌∷◌, ◌++◌, length, Option, sym, ap, ◌∙◌, subst, ⊎_elim, append_assoc, arith}
use Rattle.std.proofs.ByRecursion.{All-push}
use Rattle.std.proofs.lemmas.List.{append-nil}
use Rattle.std.proofs.lemmas.Bool.{cases_eq, eq-eqb, ne_eqb}
use Rattle.std.proofs.lemmas.List.Splits.{length-slice_split, join_with_byte-slice_split}
use Rattle.std.specs.List.{join_with_byte, AllByRecursion}
use Rattle.text.proofs.Cuts.{words_are}
use Rattle.text.specs.Lines.{Lacks, line_from, line_of, CutAtLineEnd, words_from, words_of, Spaced}

cut_from : (w bs : List ℕ) → Lacks 10 w → CutAtLineEnd (w ++ bs) (line_from w bs)
cut_from w [] h = rw append-nil h
cut_from w (b ∷ bs) h =
    ⊎_elim
    (λ e. rw (eq-eqb b 10 e) (ap (λ c. w ++ c ∷ bs) e, h))
    (λ n. rw (ne_eqb b 10 n, ← append_assoc w (b ∷ []) bs) (cut_from (w ++ b ∷ []) bs (All-push (λ c. c ≡ 10 → ⊥) w b h n)))
    (cases_eq b 10)

pub line_cut : (bs : List ℕ) (o : Option (List ℕ × List ℕ)) → o ≡ line_of bs → CutAtLineEnd bs o
line_cut bs o e = subst (CutAtLineEnd bs) (sym e) (cut_from [] bs tt)

apart_from : (w bs : List ℕ) → Lacks 32 w → AllByRecursion (Lacks 32) (words_from w bs)
apart_from w [] h = (h, tt)
apart_from w (b ∷ bs) h =
    ⊎_elim
    (λ e. rw (eq-eqb b 32 e) (h, apart_from [] bs tt))
    (λ n. rw (ne_eqb b 32 n) (apart_from (w ++ b ∷ []) bs (All-push (λ c. c ≡ 32 → ⊥) w b h n)))
    (cases_eq b 32)

pub words_spaced : (line : List ℕ) → Spaced line (words_of line)
words_spaced line = record {
  whole = ap (join_with_byte 32) (sym (words_are line)) ∙ join_with_byte-slice_split 32 line;
  apart = apart_from [] line tt;
  some = omega (arith, ap length (words_are line), length-slice_split (λ b. eqb b 32) line);
}
