-- What is added up: quantities, a quantity with its value, and the gains of sixteen scenarios.
use Rattle.std.specs.Prelude.{◌≡◌, ℕ, max, List, [], ◌∷◌, map, length, replicate, ℤ, pos, ◌+ℤ◌, neg_ℤ, unsigned_abs}
use Rattle.terms.specs.declared.amounts.Amount.{Amount}
use Rattle.terms.specs.declared.amounts.Gains.{Gains}

abbrev pub any : ℤ → Type 0
any z = Unit {0}

-- ---- a quantity and its value
abbrev pub no_amount : Amount
no_amount = record { quantity = pos 0; value = pos 0 }

abbrev pub amount_plus : Amount → Amount → Amount
amount_plus a b = record { quantity = a.quantity +ℤ b.quantity; value = a.value +ℤ b.value }

abbrev pub amount_minus : Amount → Amount
amount_minus a = record { quantity = neg_ℤ a.quantity; value = neg_ℤ a.value }

abbrev pub amount_size : Amount → ℕ
amount_size a = max (unsigned_abs a.quantity) (unsigned_abs a.value)

abbrev pub any_amount : Amount → Type 0
any_amount a = Unit {0}

-- ---- one gain for each of sixteen scenarios
abbrev pub row_plus : List ℤ → List ℤ → List ℤ
row_plus [] ys = []
row_plus (x ∷ xs) [] = []
row_plus (x ∷ xs) (y ∷ ys) = (x +ℤ y) ∷ row_plus xs ys

abbrev pub row_size : List ℤ → ℕ
row_size [] = 0
row_size (x ∷ xs) = max (unsigned_abs x) (row_size xs)

abbrev pub no_gains : Gains
no_gains = record { each = replicate 16 (pos 0) }

abbrev pub gains_plus : Gains → Gains → Gains
gains_plus g h = record { each = row_plus g.each h.each }

abbrev pub gains_minus : Gains → Gains
gains_minus g = record { each = map neg_ℤ g.each }

abbrev pub gains_size : Gains → ℕ
gains_size g = row_size g.each

abbrev pub sixteen : Gains → Type 0
sixteen g = length g.each ≡ 16
