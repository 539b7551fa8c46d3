-- Shares, one after another, and their sum.
use Rattle.std.proofs.Common.{◌≡◌, ℕ, ◌+◌, ◌*◌, ◌^◌, ◌≤◌, List, [], ◌∷◌, ◌++◌, length, ℤ, pos, ◌+ℤ◌, nat_abs, fold, sum_by, ap, ap₂, ◌∙◌, sym, add-one, arith}
use Rattle.std.proofs.lemmas.List.{length-append}
use Rattle.std.proofs.lemmas.List.Sums.{fold-append, sum_by-append}
use borrow.Author.Differences.{ints, abs_is}
use Rattle.positions.specs.Sums.{sum_to}

-- the first n
pub record Shared (f : ℕ → ℤ) (xs : List ℤ) (n : ℕ) : Type 0 where
  pub long : length xs ≡ n
  pub is : fold ◌+ℤ◌ (pos 0) xs ≡ sum_to f n
  pub small : sum_by nat_abs xs ≤ n * 2 ^ 31
  pub near : nat_abs (fold ◌+ℤ◌ (pos 0) xs) ≤ n * 2 ^ 31

pub one_share : (f : ℕ → ℤ) (xs : List ℤ) (z : ℤ) (n : ℕ) → Shared f xs n → z ≡ f n → nat_abs z ≤ 2 ^ 31 → Shared f (xs ++ z ∷ []) (n + 1)
one_share f xs z n so e b =
    let small = so.small in
    let near = so.near in
    let more = fold-append ◌+ℤ◌ (pos 0) xs (z ∷ []) in
    record {
      long = length-append xs (z ∷ []) ∙ ap (λ k. k + 1) so.long;
      is = more ∙ ap₂ (λ x y. x +ℤ y) so.is e ∙ sym (ap (sum_to f) (add-one n));
      small = omega (arith, sum_by-append nat_abs xs (z ∷ []));
      near = omega (arith, ints, abs_is, more);
    }
