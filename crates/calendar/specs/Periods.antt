-- Maturities: their letters, and the period from a first day.
use Rattle.std.specs.Prelude.{◌≡◌, ℕ, zero, suc, ◌+◌, ◌-◌, ◌%◌, Bool, true, cond, ◌&&◌, Ok, Err, Result, ◌==◌, nat_le}
use Rattle.terms.specs.declared.refusal.Refusal.{Refusal}
use Rattle.terms.specs.declared.refusal.Refusal.TheVariants.{Form, DateRule}
use Rattle.days.specs.Months.{month_of, month_start, month_end}
use Rattle.days.specs.Days.{weekday_at}
use Rattle.calendar.specs.declared.period.Period.{Period}
use Rattle.calendar.specs.declared.maturity.Maturity.{Maturity}
use Rattle.calendar.specs.declared.maturity.Maturity.TheVariants.{SingleDay, Weekend, Workdays, Week, RestOfMonth, Month, Quarter, Season, Year}

-- D, E, B, W, R, M, Q, S, Y
abbrev pub maturity_letter : Maturity → ℕ
maturity_letter SingleDay = 68
maturity_letter Weekend = 69
maturity_letter Workdays = 66
maturity_letter Week = 87
maturity_letter RestOfMonth = 82
maturity_letter Month = 77
maturity_letter Quarter = 81
maturity_letter Season = 83
maturity_letter Year = 89

-- the maturity of a letter
abbrev pub maturity_of : ℕ → Result Maturity Refusal
maturity_of b =
    cond (b == 68) (Ok SingleDay)
    (cond (b == 69) (Ok Weekend)
    (cond (b == 66) (Ok Workdays)
    (cond (b == 87) (Ok Week)
    (cond (b == 82) (Ok RestOfMonth)
    (cond (b == 77) (Ok Month)
    (cond (b == 81) (Ok Quarter)
    (cond (b == 83) (Ok Season)
    (cond (b == 89) (Ok Year) (Err Form)))))))))

-- is it this maturity?
abbrev pub alike : Maturity → Maturity → Bool
alike x y = maturity_letter x == maturity_letter y

-- the first day of a month
abbrev pub first_of_month : ℕ → Bool
first_of_month d = month_start (month_of d) == d

-- may day d be the first? Monday is 0 and Saturday 5; January is 0, April 3 and October 9
abbrev pub starts_on : Maturity → ℕ → Bool
starts_on SingleDay d = true
starts_on Weekend d = weekday_at d == 5
starts_on Workdays d = weekday_at d == 0
starts_on Week d = weekday_at d == 0
starts_on RestOfMonth d = true
starts_on Month d = first_of_month d
starts_on Quarter d = first_of_month d && month_of d % 3 == 0
starts_on Season d = first_of_month d && month_of d % 6 == 3
starts_on Year d = first_of_month d && month_of d % 12 == 0

-- the last of n whole months from day d's month on
abbrev pub months_from : ℕ → ℕ → ℕ
months_from n d = month_start (month_of d + n) - 1

-- the last day from a first day d
abbrev pub last_of : Maturity → ℕ → ℕ
last_of SingleDay d = d
last_of Weekend d = d + 1
last_of Workdays d = d + 4
last_of Week d = d + 6
last_of RestOfMonth d = months_from 1 d
last_of Month d = months_from 1 d
last_of Quarter d = months_from 3 d
last_of Season d = months_from 6 d
last_of Year d = months_from 12 d

-- first and last day; 36,524 is 31 December 2099
abbrev pub period_of : Maturity → ℕ → Result (ℕ × ℕ) Refusal
period_of x d = cond (starts_on x d && nat_le (last_of x d) 36524) (Ok (d, last_of x d)) (Err DateRule)

-- what the code's answer stands for
abbrev pub period_in : Result Period Refusal → Result (ℕ × ℕ) Refusal
period_in (Ok p) = Ok (p.first.number, p.last.number)
period_in (Err e) = Err e

-- n periods of one maturity, each from the day after the one before, go from day a to the day before e: no day is in
-- two of them and none is left out
abbrev pub Tiled : Maturity → ℕ → ℕ → ℕ → Type 0
Tiled part zero a e = a ≡ e
Tiled part (suc n) a e = (starts_on part a ≡ true) × Tiled part n (last_of part a + 1) e

-- A quarter is three months, six months are two quarters, and a year is four.
abbrev pub MadeOf : Maturity → ℕ → ℕ → Type 0
MadeOf SingleDay first last = first ≡ last
MadeOf Weekend first last = Tiled SingleDay 2 first (last + 1)
MadeOf Workdays first last = Tiled SingleDay 5 first (last + 1)
MadeOf Week first last = Tiled SingleDay 7 first (last + 1)
MadeOf RestOfMonth first last = last ≡ month_end first
MadeOf Month first last = (first ≡ month_start (month_of first)) × (last ≡ month_end first)
MadeOf Quarter first last = Tiled Month 3 first (last + 1)
MadeOf Season first last = Tiled Quarter 2 first (last + 1)
MadeOf Year first last = Tiled Quarter 4 first (last + 1)

abbrev pub covers : ℕ → ℕ → ℕ → Bool
covers first last d = nat_le first d && nat_le d last
