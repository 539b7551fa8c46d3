-- Delivery hours, under any profile, which is a mask for each day.
use Rattle.std.specs.Prelude.{ℕ, zero, suc, ◌+◌, ◌-◌, ◌/◌, ◌%◌, ◌^◌, Bool, ◌==◌, count_ones}

-- is hour k, from 1, of day d delivered? bit k - 1 of the day's mask says so
abbrev pub delivered_in : (ℕ → ℕ) → ℕ → ℕ → Bool
delivered_in mask d k = (mask d / 2 ^ (k - 1)) % 2 == 1

-- the hours of the n days from a on: the ones in their masks
unfoldable pub hours_from : (ℕ → ℕ) → ℕ → ℕ → ℕ
hours_from mask a zero = 0
hours_from mask a (suc n) = hours_from mask a n + count_ones (mask (a + n))

-- the hours of the days from a first to a last
abbrev pub hours_between : (ℕ → ℕ) → ℕ → ℕ → ℕ
hours_between mask first last = hours_from mask first (last - first + 1)
