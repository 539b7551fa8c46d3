-- What it means to be added up.
use Rattle.std.specs.Prelude.{◌≡◌, ℕ, ◌+◌, ◌≤◌, List, fold, sum_by}

-- Zero, sum and opposite make a commutative group of the values that are whole, and sizes keep up with sums.
pub record Laws {X : Type 0} (whole : X → Type 0) (none : X) (plus : X → X → X) (minus : X → X) (size : X → ℕ) : Type 0 where
  pub none_whole : whole none
  pub plus_whole : (x y : X) → whole x → whole y → whole (plus x y)
  pub minus_whole : (x : X) → whole x → whole (minus x)
  pub assoc : (x y z : X) → plus (plus x y) z ≡ plus x (plus y z)
  pub comm : (x y : X) → plus x y ≡ plus y x
  pub unit : (x : X) → whole x → plus none x ≡ x
  pub inverse : (x : X) → whole x → plus x (minus x) ≡ none
  pub none_size : size none ≡ 0
  pub plus_size : (x y : X) → size (plus x y) ≤ size x + size y
  pub minus_size : (x : X) → size (minus x) ≡ size x

-- the sum of a list
abbrev pub added : {X : Type 0} → X → (X → X → X) → List X → X
added none plus xs = fold plus none xs

-- the sum of the sizes of a list
abbrev pub sizes : {X : Type 0} → (X → ℕ) → List X → ℕ
sizes size xs = sum_by size xs
