-- Quantities, amounts and gains are added up as a commutative group.
use Rattle.std.specs.Prelude.{◌≡◌, ℕ, zero, suc, ◌+◌, ◌≤◌, max, List, [], ◌∷◌, map, length, replicate, ℤ, pos, ◌+ℤ◌, neg_ℤ, unsigned_abs, refl}
use Rattle.std.proofs.Common.{sym, ap, ap₂, ◌∙◌, arith}
use borrow.Author.Differences.{ints, abs_is}
use Rattle.terms.specs.Laws.{Laws}
use Rattle.terms.specs.Amounts.{any, no_amount, amount_plus, amount_minus, amount_size, any_amount, row_plus, row_size, no_gains, gains_plus, gains_minus, gains_size, sixteen}
use Rattle.terms.specs.declared.amounts.Amount.{Amount}
use Rattle.terms.specs.declared.amounts.Gains.{Gains}

-- ---- quantities
assoc : (x y z : ℤ) → (x +ℤ y) +ℤ z ≡ x +ℤ (y +ℤ z)
assoc x y z = omega (arith, ints)

comm : (x y : ℤ) → x +ℤ y ≡ y +ℤ x
comm x y = omega (arith, ints)

unit : (x : ℤ) → pos 0 +ℤ x ≡ x
unit x = omega (arith, ints)

inverse : (x : ℤ) → x +ℤ neg_ℤ x ≡ pos 0
inverse x = omega (arith, ints)

pub plus_size : (x y : ℤ) → unsigned_abs (x +ℤ y) ≤ unsigned_abs x + unsigned_abs y
plus_size x y = omega (arith, ints, abs_is)

pub minus_size : (x : ℤ) → unsigned_abs (neg_ℤ x) ≡ unsigned_abs x
minus_size x = omega (arith, ints, abs_is)

pub quantity_laws : Laws any (pos 0) ◌+ℤ◌ neg_ℤ unsigned_abs
quantity_laws = record {
  none_whole = tt;
  plus_whole = λ x y _ _. tt;
  minus_whole = λ x _. tt;
  assoc = assoc;
  comm = comm;
  unit = λ x _. unit x;
  inverse = λ x _. inverse x;
  none_size = refl;
  plus_size = plus_size;
  minus_size = minus_size;
}

-- ---- a quantity and its value
pair : (a b c d : ℤ) → a ≡ b → c ≡ d → ◌≡◌ {A = Amount} (record { quantity = a; value = c }) (record { quantity = b; value = d })
pair a b c d p q = ap₂ (λ x y. record { quantity = x; value = y }) p q

pub amount_laws : Laws any_amount no_amount amount_plus amount_minus amount_size
amount_laws = record {
  none_whole = tt;
  plus_whole = λ x y _ _. tt;
  minus_whole = λ x _. tt;
  assoc = λ x y z. pair _ _ _ _ (assoc x.quantity y.quantity z.quantity) (assoc x.value y.value z.value);
  comm = λ x y. pair _ _ _ _ (comm x.quantity y.quantity) (comm x.value y.value);
  unit = λ x _. pair _ _ _ _ (unit x.quantity) (unit x.value);
  inverse = λ x _. pair _ _ _ _ (inverse x.quantity) (inverse x.value);
  none_size = refl;
  plus_size = λ x y. (let p = plus_size x.quantity y.quantity in let q = plus_size x.value y.value in omega arith);
  minus_size = λ x. ap₂ max (minus_size x.quantity) (minus_size x.value);
}

-- ---- gains
row_assoc : (xs ys zs : List ℤ) → row_plus (row_plus xs ys) zs ≡ row_plus xs (row_plus ys zs)
row_assoc [] ys zs = refl
row_assoc (x ∷ xs) [] zs = refl
row_assoc (x ∷ xs) (y ∷ ys) [] = refl
row_assoc (x ∷ xs) (y ∷ ys) (z ∷ zs) = ap₂ ◌∷◌ (assoc x y z) (row_assoc xs ys zs)

row_comm : (xs ys : List ℤ) → row_plus xs ys ≡ row_plus ys xs
row_comm [] [] = refl
row_comm [] (y ∷ ys) = refl
row_comm (x ∷ xs) [] = refl
row_comm (x ∷ xs) (y ∷ ys) = ap₂ ◌∷◌ (comm x y) (row_comm xs ys)

row_unit : (n : ℕ) (xs : List ℤ) → length xs ≡ n → row_plus (replicate n (pos 0)) xs ≡ xs
row_unit zero [] e = refl
row_unit (suc n) [] e = absurd (omega arith)
row_unit zero (x ∷ xs) e = absurd (omega arith)
row_unit (suc n) (x ∷ xs) e = ap₂ ◌∷◌ (unit x) (row_unit n xs (omega arith))

row_inverse : (n : ℕ) (xs : List ℤ) → length xs ≡ n → row_plus xs (map neg_ℤ xs) ≡ replicate n (pos 0)
row_inverse zero [] e = refl
row_inverse (suc n) [] e = absurd (omega arith)
row_inverse zero (x ∷ xs) e = absurd (omega arith)
row_inverse (suc n) (x ∷ xs) e = ap₂ ◌∷◌ (inverse x) (row_inverse n xs (omega arith))

row_plus_size : (xs ys : List ℤ) → row_size (row_plus xs ys) ≤ row_size xs + row_size ys
row_plus_size [] ys = omega arith
row_plus_size (x ∷ xs) [] = omega arith
row_plus_size (x ∷ xs) (y ∷ ys) = let p = plus_size x y in let q = row_plus_size xs ys in omega arith

row_minus_size : (xs : List ℤ) → row_size (map neg_ℤ xs) ≡ row_size xs
row_minus_size [] = refl
row_minus_size (x ∷ xs) = ap₂ max (minus_size x) (row_minus_size xs)

pub row_length : (xs ys : List ℤ) → length xs ≡ length ys → length (row_plus xs ys) ≡ length xs
row_length [] [] e = refl
row_length [] (y ∷ ys) e = absurd (omega arith)
row_length (x ∷ xs) [] e = absurd (omega arith)
row_length (x ∷ xs) (y ∷ ys) e = ap suc (row_length xs ys (omega arith))

minus_length : (xs : List ℤ) → length (map neg_ℤ xs) ≡ length xs
minus_length [] = refl
minus_length (x ∷ xs) = ap suc (minus_length xs)

abbrev gains : List ℤ → Gains
gains xs = record { each = xs }

pub gains_laws : Laws sixteen no_gains gains_plus gains_minus gains_size
gains_laws = record {
  none_whole = refl;
  plus_whole = λ x y p q. row_length x.each y.each (p ∙ sym q) ∙ p;
  minus_whole = λ x p. minus_length x.each ∙ p;
  assoc = λ x y z. ap gains (row_assoc x.each y.each z.each);
  comm = λ x y. ap gains (row_comm x.each y.each);
  unit = λ x p. ap gains (row_unit 16 x.each p);
  inverse = λ x p. ap gains (row_inverse 16 x.each p);
  none_size = refl;
  plus_size = λ x y. row_plus_size x.each y.each;
  minus_size = λ x. row_minus_size x.each;
}
