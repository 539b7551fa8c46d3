-- Days are counted from 1 January 2000, day 0, and months from January 2000, month 0.
use Rattle.std.specs.Prelude.{◌≡◌, ℕ, zero, suc, ◌+◌, ◌-◌, ◌*◌, ◌/◌, ◌%◌, ◌<◌, ◌≤◌, cond, List, [], ◌∷◌, ◌++◌, nat_lt, slice_index}

-- the lengths of a year's months
abbrev pub year_with : ℕ → List ℕ
year_with february = 31 ∷ february ∷ 31 ∷ 30 ∷ 31 ∷ 30 ∷ 31 ∷ 31 ∷ 30 ∷ 31 ∷ 30 ∷ 31 ∷ []

-- from 2000 to 2099 every fourth year has a leap day, so months repeat after four years
unfoldable pub lengths : List ℕ
lengths = year_with 29 ++ (year_with 28 ++ (year_with 28 ++ year_with 28))

-- which of some months, by their lengths, has day r, and the first day of month k
unfoldable pub month_from : List ℕ → ℕ → ℕ
month_from [] r = 0
month_from (n ∷ ns) r = cond (nat_lt r n) 0 (suc (month_from ns (r - n)))

unfoldable pub start_from : List ℕ → ℕ → ℕ
start_from ns zero = 0
start_from [] (suc k) = 0
start_from (n ∷ ns) (suc k) = n + start_from ns k

unfoldable pub month_of : ℕ → ℕ
month_of d = 48 * (d / 1461) + month_from lengths (d % 1461)

unfoldable pub month_length : ℕ → ℕ
month_length m = slice_index lengths (m % 48)

unfoldable pub month_start : ℕ → ℕ
month_start m = 1461 * (m / 48) + start_from lengths (m % 48)

-- the last day of the month in which day d lies
unfoldable pub month_end : ℕ → ℕ
month_end d = month_start (month_of d + 1) - 1

-- Each month follows the one before, and each day lies in just one month.
pub record MonthsTile : Type 0 where
  pub next : (m : ℕ) → month_start (m + 1) ≡ month_start m + month_length m
  pub within : (d : ℕ) → (month_start (month_of d) ≤ d) × (d < month_start (month_of d + 1))
  pub only : (d m : ℕ) → month_start m ≤ d → d < month_start (m + 1) → month_of d ≡ m
  pub rises : (d e : ℕ) → d ≤ e → month_of d ≤ month_of e
