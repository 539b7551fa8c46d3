-- Two finite sums change places.
use Rattle.std.proofs.Common.{◌≡◌, ℕ, zero, suc, ◌<◌, Bool, true, false, cond, ◌&&◌, List, [], ◌∷◌, ℤ, pos, ◌+ℤ◌, refl, ap, ◌∙◌, arith}
use borrow.Author.Differences.{ints}
use Rattle.positions.specs.Sums.{sum_of, sum_to}
use Rattle.positions.proofs.SumLaws.{sum_of_none, sum_of_plus, sum_of_same}
use Rattle.std.specs.List.{AllByRecursion as All}

pub sum_to_below : (f g : ℕ → ℤ) (n : ℕ) → ((i : ℕ) → i < n → f i ≡ g i) → sum_to f n ≡ sum_to g n
sum_to_below f g zero h = refl
sum_to_below f g (suc n) h =
    let e = h n (omega arith) in
    let i = sum_to_below f g n (λ i l. h i (omega arith)) in
    omega (arith, ints)

pub sum_of_all : {X : Type 0} (P : X → Type 0) (f g : X → ℤ) (xs : List X) → All P xs → ((x : X) → P x → f x ≡ g x) → sum_of f xs ≡ sum_of g xs
sum_of_all P f g [] a h = refl
sum_of_all P f g (x ∷ xs) a h = let e = h x a.0 in let i = sum_of_all P f g xs a.1 h in omega (arith, ints)

-- a sum over n under a sum over a list
pub swap : {X : Type 0} (f : ℕ → X → ℤ) (n : ℕ) (xs : List X) → sum_of (λ x. sum_to (λ i. f i x) n) xs ≡ sum_to (λ i. sum_of (f i) xs) n
swap f zero xs = sum_of_none xs
swap f (suc n) xs = sum_of_plus (λ x. sum_to (λ i. f i x) n) (f n) xs ∙ ap (λ s. s +ℤ sum_of (f n) xs) (swap f n xs)

cond_sum : (b : Bool) (f : ℕ → ℤ) (n : ℕ) → cond b (sum_to f n) (pos 0) ≡ sum_to (λ i. cond b (f i) (pos 0)) n
cond_sum b f zero = cond_zero b
  where
    cond_zero : (b : Bool) → cond b (pos 0) (pos 0) ≡ pos 0
    cond_zero true = refl
    cond_zero false = refl
cond_sum true f (suc n) = ap (λ s. s +ℤ f n) (cond_sum true f n)
cond_sum false f (suc n) = ap (λ s. s +ℤ pos 0) (cond_sum false f n)

cond_and : (a b : Bool) (x : ℤ) → cond a (cond b x (pos 0)) (pos 0) ≡ cond (a && b) x (pos 0)
cond_and true b x = refl
cond_and false b x = refl

-- X are the lines, i < n the contracts: where each contract comes to just what it covers, the sums are equal
module _ {X : Type 0} (n : ℕ) (xs : List X) (q : ℕ → ℤ) (delivers : X → Bool) (reaches : ℕ → X → Bool) (covers : ℕ → Bool) where
  pub conserved : ((i : ℕ) → i < n → sum_of (λ x. cond (delivers x && reaches i x) (q i) (pos 0)) xs ≡ cond (covers i) (q i) (pos 0)) → sum_of (λ x. cond (delivers x) (sum_to (λ i. cond (reaches i x) (q i) (pos 0)) n) (pos 0)) xs ≡ sum_to (λ i. cond (covers i) (q i) (pos 0)) n
  conserved each =
      sum_of_each ∙ swap (λ i x. cond (delivers x && reaches i x) (q i) (pos 0)) n xs ∙ sum_to_below _ _ n each
    where
      in_one : (x : X) → cond (delivers x) (sum_to (λ i. cond (reaches i x) (q i) (pos 0)) n) (pos 0) ≡ sum_to (λ i. cond (delivers x && reaches i x) (q i) (pos 0)) n
      in_one x = cond_sum (delivers x) (λ i. cond (reaches i x) (q i) (pos 0)) n ∙ sum_to_below _ _ n (λ i _. cond_and (delivers x) (reaches i x) (q i))

      sum_of_each : sum_of (λ x. cond (delivers x) (sum_to (λ i. cond (reaches i x) (q i) (pos 0)) n) (pos 0)) xs ≡ sum_of (λ x. sum_to (λ i. cond (delivers x && reaches i x) (q i) (pos 0)) n) xs
      sum_of_each = sum_of_same _ _ xs in_one
