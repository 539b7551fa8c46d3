-- The load profiles: which hours of a day each delivers.
use Rattle.std.specs.Prelude.{◌≡◌, ℕ, zero, suc, ◌+◌, ◌%◌, ◌^◌, ◌≤◌, Bool, cond, not, ◌&&◌, Ok, Err, Result, ◌==◌, nat_le, nat_lt}
use Rattle.terms.specs.declared.refusal.Refusal.{Refusal}
use Rattle.terms.specs.declared.refusal.Refusal.TheVariants.{Form}
use Rattle.days.specs.Months.{month_of}
use Rattle.days.specs.Days.{weekday_at}
use Rattle.calendar.specs.Hours.{delivered_in}
use Rattle.calendar.specs.declared.load.Load.{Load}
use Rattle.calendar.specs.declared.load.Load.TheVariants.{Base, Peak, Gas}

-- B, P, G
abbrev pub load_letter : Load → ℕ
load_letter Base = 66
load_letter Peak = 80
load_letter Gas = 71

abbrev pub load_of : ℕ → Result Load Refusal
load_of b = cond (b == 66) (Ok Base) (cond (b == 80) (Ok Peak) (cond (b == 71) (Ok Gas) (Err Form)))

-- is day d the last Sunday of month m of its year, January being 0?
unfoldable pub last_sunday_of : ℕ → ℕ → Bool
last_sunday_of m d = weekday_at d == 6 && (month_of d % 12 == m && not (month_of (d + 7) == month_of d))

-- the clock goes forward on the last Sunday of March and back on the last of October
abbrev pub last_hour : ℕ → ℕ
last_hour d = cond (last_sunday_of 2 d) 23 (cond (last_sunday_of 9 d) 25 24)

-- is hour k of day d delivered?
abbrev pub delivers : Load → ℕ → ℕ → Bool
delivers Base d k = nat_le 1 k && nat_le k (last_hour d)
delivers Peak d k = nat_lt (weekday_at d) 5 && (nat_le 9 k && nat_le k 20)
delivers Gas d k = k == 1

-- the number whose bit k - 1 is set where hour k is among the hours, of 1 to n
abbrev pub mask_to : ℕ → (ℕ → Bool) → ℕ
mask_to zero hours = 0
mask_to (suc n) hours = mask_to n hours + cond (hours (suc n)) (2 ^ n) 0

abbrev pub mask_of : Load → ℕ → ℕ
mask_of load d = mask_to 25 (delivers load d)

-- the same, shut, so that no proof walks through its 25 bits
unfoldable pub load_mask : Load → ℕ → ℕ
load_mask load d = mask_of load d

-- The mask tells just the hours that are delivered.
abbrev pub HourByHour : Load → ℕ → Type 0
HourByHour load d = (k : ℕ) → 1 ≤ k → k ≤ 25 → delivered_in (load_mask load) d k ≡ delivers load d k
