-- How a number is written.
use Rattle.std.specs.Prelude.{◌≡◌, ℕ, ◌+◌, ◌-◌, ◌*◌, ◌^◌, ◌<◌, ◌≤◌, min, cond, List, [], ◌∷◌, ℤ, pos, neg_ℤ, Some, None, Option, ◌==◌, unsigned_abs}
use Rattle.std.specs.Option.{option_map}
use Rattle.std.specs.Char.{is_ascii_digit}
use Rattle.std.specs.Fmt.{signed_decimal}

-- the number that digits write after n, or nothing where a byte is no digit
abbrev pub digits : ℕ → List ℕ → Option ℕ
digits n [] = Some n
digits n (c ∷ cs) = cond (is_ascii_digit c) (digits (n * 10 + (c - 48)) cs) None

-- the greatest size, which stands for every greater one
abbrev pub largest : ℕ
largest = 10 ^ 18

-- a size, as it is read
abbrev pub capped : ℕ → ℤ
capped n = pos (min n largest)

-- digits of which the first is not 0
abbrev pub plain : List ℕ → Option ℤ
plain [] = None
plain (c ∷ cs) = cond (c == 48) None (option_map capped (digits 0 (c ∷ cs)))

-- what follows a first byte 0
abbrev pub only_zero : List ℕ → Option ℤ
only_zero [] = Some (pos 0)
only_zero (c ∷ cs) = None

-- `0`, or an optional `-` and digits of which the first is not 0
abbrev pub number_of : List ℕ → Option ℤ
number_of [] = None
number_of (c ∷ cs) = cond (c == 48) (only_zero cs) (cond (c == 45) (option_map neg_ℤ (plain cs)) (plain (c ∷ cs)))

-- below the limit, a word is read as z exactly when it is what is printed of z; the limit itself is read as itself
pub record OneSpelling (word : List ℕ) (read : Option ℤ) : Type 0 where
  pub reads : (z : ℤ) → unsigned_abs z ≤ largest → word ≡ signed_decimal z → read ≡ Some z
  pub spells : (z : ℤ) → unsigned_abs z < largest → read ≡ Some z → word ≡ signed_decimal z
