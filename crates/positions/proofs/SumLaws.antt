-- Sums over a list.
use Rattle.std.proofs.Common.{◌≡◌, Bool, true, false, cond, List, [], ◌∷◌, ◌++◌, ℤ, pos, ◌+ℤ◌, sym, refl, arith}
use lib.IntN.{+ℤ_idl}
use borrow.Author.Differences.{ints}
use Rattle.positions.specs.Sums.{sum_of}

pub sum_of_append : {X : Type 0} (f : X → ℤ) (xs ys : List X) → sum_of f (xs ++ ys) ≡ sum_of f xs +ℤ sum_of f ys
sum_of_append f [] ys = omega (arith, ints)
sum_of_append f (x ∷ xs) ys = let h = sum_of_append f xs ys in omega (arith, ints)

pub sum_of_plus : {X : Type 0} (f g : X → ℤ) (xs : List X) → sum_of (λ x. f x +ℤ g x) xs ≡ sum_of f xs +ℤ sum_of g xs
sum_of_plus f g [] = refl
sum_of_plus f g (x ∷ xs) = let h = sum_of_plus f g xs in omega (arith, ints)

pub sum_of_none : {X : Type 0} (xs : List X) → sum_of (λ (x : X). pos 0) xs ≡ pos 0
sum_of_none [] = refl
sum_of_none (x ∷ xs) = let h = sum_of_none xs in omega (arith, ints)

pub sum_of_same : {X : Type 0} (f g : X → ℤ) (xs : List X) → ((x : X) → f x ≡ g x) → sum_of f xs ≡ sum_of g xs
sum_of_same f g [] h = refl
sum_of_same f g (x ∷ xs) h = let e = h x in let i = sum_of_same f g xs h in omega (arith, ints)

pub sum_of_if : {X : Type 0} (f : X → ℤ) (b : Bool) (x : X) (xs : List X) → sum_of f (cond b (x ∷ xs) xs) ≡ cond b (f x) (pos 0) +ℤ sum_of f xs
sum_of_if f true x xs = refl
sum_of_if f false x xs = sym (+ℤ_idl (sum_of f xs))
