-- The number YYYYMMDD of a day, and weekdays.
use Rattle.std.specs.Prelude.{◌≡◌, ℕ, ◌+◌, ◌-◌, ◌*◌, ◌/◌, ◌%◌, ◌<◌, Bool, cond, ◌&&◌, ℤ, pos, negsuc, Some, None, Ok, Err, Option, Result, nat_le, nat_lt}
use Rattle.terms.specs.declared.refusal.Refusal.{Refusal}
use Rattle.terms.specs.declared.refusal.Refusal.TheVariants.{OutOfRange}
use Rattle.days.specs.Months.{month_of, month_start, month_length}
use Rattle.days.specs.declared.day.Day.{Day}
use Rattle.days.specs.declared.weekday.Weekday.{Weekday}
use Rattle.days.specs.declared.weekday.Weekday.TheVariants.{Monday, Tuesday, Wednesday, Thursday, Friday, Saturday, Sunday}

-- the days to 31 December 2099
abbrev pub century : ℕ
century = 36525

-- the number YYYYMMDD of day d
unfoldable pub numbered : ℕ → ℕ
numbered d = 10000 * (2000 + month_of d / 12) + 100 * (month_of d % 12 + 1) + (d - month_start (month_of d) + 1)

-- day k of month m of a year, m and k from 1
abbrev pub exists : ℕ → ℕ → ℕ → Bool
exists y m k = (nat_le 2000 y && nat_le y 2099) && ((nat_le 1 m && nat_le m 12) && (nat_le 1 k && nat_le k (month_length (12 * (y - 2000) + (m - 1)))))

abbrev pub day_at : ℕ → ℕ → ℕ → Result ℕ Refusal
day_at y m k = cond (exists y m k) (Ok (month_start (12 * (y - 2000) + (m - 1)) + (k - 1))) (Err OutOfRange)

-- the day that a number names
unfoldable pub day_of : ℤ → Result ℕ Refusal
day_of (pos n) = day_at (n / 10000) (n / 100 % 100) (n % 100)
day_of (negsuc n) = Err OutOfRange

-- what the code's answer stands for
abbrev pub day_in : Result Day Refusal → Result ℕ Refusal
day_in (Ok d) = Ok d.number
day_in (Err e) = Err e

-- day n, where that is by the end of 2099
abbrev pub day_within : ℕ → Option ℕ
day_within n = cond (nat_lt n century) (Some n) None

abbrev pub day_found : Option Day → Option ℕ
day_found None = None
day_found (Some d) = Some d.number

-- A number is refused exactly where it is no day's, and a day goes by one number.
pub record Named (z : ℤ) (r : Result ℕ Refusal) : Type 0 where
  pub is : (d : ℕ) → r ≡ Ok d → (d < century) × (z ≡ pos (numbered d))
  pub found : (d : ℕ) → d < century → z ≡ pos (numbered d) → r ≡ Ok d
  pub refused : (e : Refusal) → r ≡ Err e → e ≡ OutOfRange

-- Monday is 0; 1 January 2000 was a Saturday
abbrev pub weekday_at : ℕ → ℕ
weekday_at d = (d + 5) % 7

abbrev pub weekday_number : Weekday → ℕ
weekday_number Monday = 0
weekday_number Tuesday = 1
weekday_number Wednesday = 2
weekday_number Thursday = 3
weekday_number Friday = 4
weekday_number Saturday = 5
weekday_number Sunday = 6

-- Weekdays go round by seven, each followed by the next.
pub record WeekdaysGoRound : Type 0 where
  pub few : (d : ℕ) → weekday_at d < 7
  pub next : (d : ℕ) → weekday_at (d + 1) ≡ (weekday_at d + 1) % 7
  pub round : (d : ℕ) → weekday_at (d + 7) ≡ weekday_at d
