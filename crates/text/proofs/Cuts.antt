-- A line that is cut at its end and into words, by std's words for what `position` and `split` give.
use Rattle.std.proofs.Common.{◌≡◌, ℕ, suc, ◌+◌, ◌-◌, ◌<◌, eqb, List, [], ◌∷◌, ◌++◌, length, take, drop, Some, None, sym, refl, ap, ◌∙◌, ⊎_elim, append_assoc, add-one, arith}
use Rattle.std.proofs.lemmas.List.{append-nil, take_rest}
use Rattle.std.proofs.lemmas.List.Splits.{length-slice_split}
use Rattle.std.proofs.lemmas.Iterator.Adapters.{position_from-zero}
use Rattle.std.proofs.lemmas.Bool.{cases_eq, eq-eqb, ne_eqb}
use Rattle.std.specs.List.{position, position_from, slice_split, onto_first}
use Rattle.text.specs.Lines.{line_from, line_of, words_from, words_of}

-- ---- the first line

none_from : (w bs : List ℕ) (i : ℕ) → position_from (λ b. eqb b 10) i bs ≡ None → line_from w bs ≡ None
none_from w [] i e = refl
none_from w (b ∷ bs) i e =
    ⊎_elim
    (λ yes. let clash : Some i ≡ None = rw (eq-eqb b 10 yes) at e in cc)
    (λ no. rw (ne_eqb b 10 no) (none_from (w ++ b ∷ []) bs (i + 1) (rw (ne_eqb b 10 no) at e)))
    (cases_eq b 10)

some_from : (w bs : List ℕ) (i k : ℕ) → position_from (λ b. eqb b 10) i bs ≡ Some k → (j : ℕ) × (k ≡ i + j) × (line_from w bs ≡ Some (w ++ take j bs, drop (suc j) bs))
some_from w [] i k e = absurd (cc)
some_from w (b ∷ bs) i k e =
    ⊎_elim
    (λ yes. let is : Some i ≡ Some k = rw (eq-eqb b 10 yes) at e in let same : i ≡ k = cc in (0, omega arith, rw (eq-eqb b 10 yes, append-nil w) refl))
    (λ no.
    let later = some_from (w ++ b ∷ []) bs (i + 1) k (rw (ne_eqb b 10 no) at e) in
    let more : k ≡ i + suc later.0 = omega (arith, later.1) in
    (suc later.0, more, rw (ne_eqb b 10 no, ← append_assoc w (b ∷ []) (take later.0 bs)) later.2))
    (cases_eq b 10)

pub line_none : (bs : List ℕ) → position (λ b. eqb b 10) bs ≡ None → None ≡ line_of bs
line_none bs e = sym (none_from [] bs 0 (sym (position_from-zero (λ b. eqb b 10) bs) ∙ e))

pub line_some : (bs : List ℕ) (k : ℕ) → position (λ b. eqb b 10) bs ≡ Some k → Some (take k bs, take (length bs - (k + 1)) (drop (k + 1) bs)) ≡ line_of bs
line_some bs k e =
    let found = some_from [] bs 0 k (sym (position_from-zero (λ b. eqb b 10) bs) ∙ e) in
    let same : found.0 ≡ k = omega (arith, found.1) in
    rw (take_rest bs (k + 1), ← same, add-one found.0) (sym found.2)

-- ---- the words
-- some parts, of which w comes before the first
abbrev onto : List ℕ → List (List ℕ) → List (List ℕ)
onto w [] = w ∷ []
onto w (v ∷ vs) = (w ++ v) ∷ vs

onto_none : (vs : List (List ℕ)) → 0 < length vs → onto [] vs ≡ vs
onto_none [] h = absurd (omega arith)
onto_none (v ∷ vs) h = refl

onto_more : (w : List ℕ) (b : ℕ) (vs : List (List ℕ)) → onto (w ++ b ∷ []) vs ≡ onto w (onto_first b vs)
onto_more w b [] = refl
onto_more w b (v ∷ vs) = rw (append_assoc w (b ∷ []) v) refl

words_onto : (w bs : List ℕ) → words_from w bs ≡ onto w (slice_split (λ b. eqb b 32) bs)
words_onto w [] = rw append-nil refl
words_onto w (b ∷ bs) =
    ⊎_elim
    (λ yes. rw (eq-eqb b 32 yes, append-nil w) (ap (λ vs. w ∷ vs) (words_onto [] bs ∙ onto_none _ (omega (arith, length-slice_split (λ b. eqb b 32) bs)))))
    (λ no. rw (ne_eqb b 32 no) (words_onto (w ++ b ∷ []) bs ∙ onto_more w b (slice_split (λ b. eqb b 32) bs)))
    (cases_eq b 32)

pub words_are : (bs : List ℕ) → slice_split (λ b. eqb b 32) bs ≡ words_of bs
words_are bs = sym (words_onto [] bs ∙ onto_none _ (omega (arith, length-slice_split (λ b. eqb b 32) bs)))
