-- Steps along the row of the others.
use Rattle.std.proofs.Common.{◌≡◌, ℕ, zero, suc, ◌+◌, ◌<◌, ◌≤◌, min, Bool, true, false, cond, ◌||◌, eqb, List, [], ◌∷◌, ◌++◌, length, get_or, take, set, ℤ, pos, nat_abs, fold, sym, refl, ap, ◌∙◌, subst, inl, inr, arith}
use Rattle.std.proofs.lemmas.List.{take_more, get_or-set_same, get_or-set_other}
use Rattle.std.proofs.lemmas.Bool.{or_left, or_right, or_from, eq-eqb, ne_eqb, both_ways, cases_eq, cond-true, cond-false}
use Rattle.positions.specs.Steps.{taken, Distinct}
use Rattle.positions.specs.Net.{Places, smallest, is_in, placed, towards}

pub smallest_le : (p : Places) (f : ℕ) (os : List ℕ) → smallest p f os ≤ nat_abs (p f)
smallest_le p f [] = omega arith
smallest_le p f (o ∷ os) = let h = smallest_le p f os in omega arith

fold_smallest : (p : Places) (f : ℕ) (os : List ℕ) (k : ℕ) → k ≤ nat_abs (p f) → fold (λ n o. min n (nat_abs (p o))) k os ≡ min k (smallest p f os)
fold_smallest p f [] k h = omega arith
fold_smallest p f (o ∷ os) k h = let r = fold_smallest p f os (min k (nat_abs (p o))) (omega arith) in omega arith

pub fold-smallest : (p : Places) (f : ℕ) (os : List ℕ) → fold (λ n o. min n (nat_abs (p o))) (nat_abs (p f)) os ≡ smallest p f os
fold-smallest p f os =
    let s = fold_smallest p f os (nat_abs (p f)) (omega arith) in
    let l = smallest_le p f os in
    omega arith

-- ---- one more of the row
pub in_push : (i : ℕ) (os : List ℕ) (o : ℕ) → is_in i (os ++ (o ∷ [])) ≡ (eqb i o || is_in i os)
in_push i [] o = refl
in_push i (x ∷ os) o = ap (λ b. eqb i x || b) (in_push i os o) ∙ turn (eqb i x) (eqb i o) (is_in i os)
  where
    turn : (a b c : Bool) → (a || (b || c)) ≡ (b || (a || c))
    turn true true c = refl
    turn true false c = refl
    turn false b c = refl

in_at : (os : List ℕ) (i : ℕ) → i < length os → is_in (get_or os i 0) os ≡ true
in_at [] i h = absurd (omega arith)
in_at (x ∷ os) zero h = or_left (eqb x x) (is_in x os) (eq-eqb x x refl)
in_at (x ∷ os) (suc i) h = or_right (eqb (get_or os i 0) x) (is_in (get_or os i 0) os) (in_at os i (omega arith))

pub distinct_at : (os : List ℕ) (i : ℕ) → Distinct os → i < length os → is_in (get_or os i 0) (take i os) ≡ false
distinct_at [] i u h = absurd (omega arith)
distinct_at (x ∷ os) zero u h = refl
distinct_at (x ∷ os) (suc i) u h = or_from (eqb (get_or os i 0) x) (is_in (get_or os i 0) (take i os)) (ne_eqb (get_or os i 0) x (λ e. both_ways (is_in x os) u.0 (subst (λ y. is_in y os ≡ true) e (in_at os i (omega arith))))) (distinct_at os i u.1 (omega arith))

-- the write at one more place
pub taken_more : (k : ℕ) (os : List ℕ) (i : ℕ) (xs : List ℤ) (p : Places) → Distinct os → i < length os → get_or os i 0 < length xs → ((j : ℕ) → placed xs j ≡ taken k (take i os) p j) →
    (placed xs (get_or os i 0) ≡ p (get_or os i 0)) × ((j : ℕ) → placed (set xs (get_or os i 0) (towards k (placed xs (get_or os i 0)))) j ≡ taken k (take (i + 1) os) p j)
taken_more k os i xs p u h l inv =
    let o = get_or os i 0 in
    let out = distinct_at os i u h in
    let was : placed xs o ≡ p o = inv o ∙ cond-false (is_in o (take i os)) (towards k (p o)) (p o) out in
    let grows : (j : ℕ) → is_in j (take (i + 1) os) ≡ (eqb j o || is_in j (take i os)) = λ j. ap (is_in j) (take_more os i 0 h) ∙ in_push j (take i os) o in (
      was,
      λ j. elim (cases_eq j o) [
        | inl e ↦ (
            let left : placed (set xs o (towards k (placed xs o))) j ≡ towards k (p j) = ap (placed (set xs o (towards k (placed xs o)))) e ∙ get_or-set_same xs o (towards k (placed xs o)) (pos 0) l ∙ ap (towards k) was ∙ ap (λ x. towards k (p x)) (sym e) in
            left ∙ sym (cond-true (is_in j (take (i + 1) os)) (towards k (p j)) (p j) (grows j ∙ or_left (eqb j o) (is_in j (take i os)) (eq-eqb j o e))))
        | inr n ↦ (
            let left : placed (set xs o (towards k (placed xs o))) j ≡ placed xs j = get_or-set_other xs o j (towards k (placed xs o)) (pos 0) n in
            let same : is_in j (take i os) ≡ is_in j (take (i + 1) os) = sym (grows j ∙ ap (λ b. b || is_in j (take i os)) (ne_eqb j o n)) in
            left ∙ inv j ∙ ap (λ b. cond b (towards k (p j)) (p j)) same)
      ],
    )

pub smallest_at : (p : Places) (f : ℕ) (os : List ℕ) (i : ℕ) → i < length os → smallest p f os ≤ nat_abs (p (get_or os i 0))
smallest_at p f [] i h = absurd (omega arith)
smallest_at p f (o ∷ os) zero h = omega arith
smallest_at p f (o ∷ os) (suc i) h = let r = smallest_at p f os i (omega arith) in omega arith
