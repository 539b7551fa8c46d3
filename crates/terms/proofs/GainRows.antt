-- The gains of a row, one place after another.
use Rattle.std.proofs.Common.{◌≡◌, ℕ, zero, suc, ◌+◌, ◌<◌, ◌≤◌, List, [], ◌∷◌, length, get_or, ℤ, pos, ◌+ℤ◌, ◌-ℤ◌, neg_ℤ, nat_abs, map, sym, refl, ap, ◌∙◌, subst, inl, inr, arith}
use borrow.Author.Differences.{ints}
use denote.Param.Members.{Mut}
use lib.ListN.{length-map}
use Rattle.std.specs.Array.{list_steps, IsMapOf, IsFromFnResult, IsFromFnResultFrom}
use Rattle.std.specs.Fn.{Called}
use Rattle.std.specs.Iterator.{Yields}
use Rattle.std.proofs.lemmas.List.{ext_get_or, get_or-map}
use Rattle.std.proofs.lemmas.Bool.{cases_eq}
use Rattle.terms.specs.Amounts.{row_plus, row_size}
use Rattle.terms.specs.Groups.{row_length}

pub at_size : (xs : List ℤ) (k : ℕ) → nat_abs (get_or xs k (pos 0)) ≤ row_size xs
at_size [] k = omega arith
at_size (x ∷ xs) zero = omega arith
at_size (x ∷ xs) (suc k) = let h = at_size xs k in omega arith

at_plus : (xs ys : List ℤ) (k : ℕ) → length xs ≡ length ys → get_or (row_plus xs ys) k (pos 0) ≡ get_or xs k (pos 0) +ℤ get_or ys k (pos 0)
at_plus [] [] k e = refl
at_plus [] (y ∷ ys) k e = absurd (omega arith)
at_plus (x ∷ xs) [] k e = absurd (omega arith)
at_plus (x ∷ xs) (y ∷ ys) zero e = refl
at_plus (x ∷ xs) (y ∷ ys) (suc k) e = at_plus xs ys k (omega arith)

-- a gain that comes from a row is no larger than the row's size
pub turn_size : (row rest : List ℤ) (xs : List ℤ) (x : ℤ) (others : List ℤ) → Yields list_steps row xs rest → rest ≡ x ∷ others → nat_abs x ≤ row_size row
turn_size row rest [] x others y is = let e = ap row_size (y ∙ is) in omega arith
turn_size row rest (z ∷ xs) x others y is =
    let h = turn_size y.0 rest xs x others y.2 is in
    let e = ap row_size y.1 in
    omega arith

-- what calls at each gain of a row gave
pub mapped : {F : Type 0} (g : Mut F (ℤ × Unit {0}) ℤ) (f : F) (row made : List ℤ) (n : ℕ) (h : ℤ → ℤ) → IsMapOf g f row made n → length row ≡ n → ((x r : ℤ) (p q : F) → nat_abs x ≤ row_size row → Called g p (x, tt) r q → r ≡ h x) → made ≡ map h row
mapped g f row made n h is long each =
    let l = is.long in
    ext_get_or (pos 0) made (map h row) (l ∙ sym (length-map row h ∙ long)) (λ i lt.
    let at = is.at i (pos 0) (pos 0) (omega arith) in
    each (get_or row i (pos 0)) (get_or made i (pos 0)) at.0 at.1 (at_size row i) at.2 ∙ sym (get_or-map h row i (pos 0) (pos 0) (omega arith)))

-- what calls at each number below n gave, where a call leaves the closure as it was
made_from : {F : Type 0} (g : Mut F (ℕ × Unit {0}) ℤ) (f : F) (made : List ℤ) (at : ℕ → ℤ) (top i n : ℕ) → i + n ≤ top → ((k : ℕ) (r : ℤ) (q : F) → k < top → Called g f (k, tt) r q → (r ≡ at k) × (q ≡ f)) → IsFromFnResultFrom g f made i n → (k : ℕ) → i ≤ k → k < i + n → get_or made k (pos 0) ≡ at k
made_from g f made at top i zero h each is k low high = absurd (omega arith)
made_from g f made at top i (suc n) h each is k low high =
    let one = each i is.1 is.0 (omega arith) is.3 in
    let others : IsFromFnResultFrom g f made (i + 1) n = subst (λ q. IsFromFnResultFrom g q made (i + 1) n) one.1 is.4 in
    elim (cases_eq k i) [
      | inl same ↦ ap (λ j. get_or made j (pos 0)) same ∙ is.2.1 (pos 0) ∙ one.0 ∙ ap at (sym same)
      | inr other ↦ made_from g f made at top (i + 1) n (omega arith) each others k (omega arith) (omega arith)
    ]

pub made_each : {F : Type 0} (g : Mut F (ℕ × Unit {0}) ℤ) (f : F) (row others made : List ℤ) (n : ℕ) → length row ≡ n → length others ≡ n → IsFromFnResult g f made n → ((k : ℕ) (r : ℤ) (q : F) → k < n → Called g f (k, tt) r q → (r ≡ get_or row k (pos 0) +ℤ get_or others k (pos 0)) × (q ≡ f)) → made ≡ row_plus row others
made_each g f row others made n long same is each =
    let l = is.long in
    ext_get_or (pos 0) made (row_plus row others) (l ∙ sym (row_length row others (long ∙ sym same) ∙ long)) (λ k lt. made_from g f made _ n 0 n (omega arith) each is.each k (omega arith) (omega arith) ∙ sym (at_plus row others k (long ∙ sym same)))

-- `0 - x`, as the checker reads a minus
pub minus_is : (x : ℤ) → pos 0 -ℤ x ≡ neg_ℤ x
minus_is x = omega (arith, ints)
