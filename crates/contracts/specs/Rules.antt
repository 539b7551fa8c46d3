-- The rules of a contract table: what a row that is added is refused for, by number.
use Rattle.std.specs.Prelude.{◌≡◌, ℕ, ◌+◌, ◌<◌, Bool, true, false, cond, not, ◌&&◌, ◌||◌, List, [], ◌∷◌, length, get_or, take, pos, is_some, Some, None, Ok, Err, Option, Result, ◌==◌, nat_le, nat_lt, slice_index_or}
use Rattle.terms.specs.Ranges.{holds_in}
use Rattle.terms.specs.declared.bounds.Bounds.TheVariants.{Contract, Instrument}
use Rattle.terms.specs.declared.refusal.Refusal.{Refusal}
use Rattle.terms.specs.declared.refusal.Refusal.TheVariants.{OutOfRange, UnknownReference, RepeatedKey, DateRule, TooLong}
use Rattle.days.specs.Months.{month_of}
use Rattle.calendar.specs.Periods.{starts_on, alike}
use Rattle.calendar.specs.declared.maturity.Maturity.{Maturity}
use Rattle.calendar.specs.declared.maturity.Maturity.TheVariants.{SingleDay, Weekend, Workdays, Week, RestOfMonth, Month, Quarter, Season, Year}
use Rattle.contracts.specs.Table.{Instr, Listed, Table, size, blank, last_day, is_open, kind_in, option_in}

-- ---- the dates of the table
-- the horizon lies 1 to 14 days after the date, else 2
abbrev pub dates_answer : ℕ → ℕ → Result Table Refusal
dates_answer date horizon = cond (nat_lt date horizon && nat_le horizon (date + 14)) (Ok (record { date = date; horizon = horizon; instruments = []; contracts = [] })) (Err OutOfRange)

-- ---- an instrument
abbrev pub is_numbered : ℕ → List Instr → Bool
is_numbered u is = is_some (kind_in is u)

-- 2 number out of range, 4 number again, 7 eight are there
abbrev pub instrument_refusal : List Instr → ℕ → Option Refusal
instrument_refusal is u =
    cond (not (holds_in Instrument (pos u))) (Some OutOfRange)
    (cond (is_numbered u is) (Some RepeatedKey)
    (cond (nat_le 8 (length is)) (Some TooLong) None))

-- ---- a contract
-- a key again: the number, or instrument, maturity and first day together
abbrev pub same_key : Listed → Listed → Bool
same_key c e = e.number == c.number || (e.instrument == c.instrument && (alike e.maturity c.maturity && e.first == c.first))

abbrev pub is_repeated : Listed → List Listed → Bool
is_repeated c [] = false
is_repeated c (e ∷ es) = same_key c e || is_repeated c es

-- the date's month or the next
abbrev pub is_near : Table → Listed → Bool
is_near t c = month_of c.first == month_of t.date || month_of c.first == month_of t.date + 1

abbrev pub is_long : Maturity → Bool
is_long x = alike x Quarter || (alike x Season || alike x Year)

-- what each maturity asks of the date and the horizon
abbrev pub on_time : Table → Listed → Maturity → Bool
on_time t c SingleDay = nat_lt t.date c.first && nat_le (last_day c) t.horizon
on_time t c Weekend = cond (is_open t c) (nat_lt t.horizon c.first) (nat_le (last_day c) t.horizon)
on_time t c Workdays = cond (is_open t c) (nat_lt t.horizon c.first) (nat_le (last_day c) t.horizon)
on_time t c Week = cond (is_open t c) (nat_lt t.horizon c.first) (nat_le (last_day c) t.horizon)
on_time t c RestOfMonth = is_open t c || (is_near t c && nat_le c.first (t.horizon + 1))
on_time t c Month = is_open t c || is_near t c
on_time t c Quarter = true
on_time t c Season = true
on_time t c Year = true

-- registration ends before delivery, and delivery after the date; options and long maturities are open; and the
-- maturity's own rule holds
abbrev pub is_due : Table → Bool → Listed → Bool
is_due t option c =
    (nat_lt c.registration c.first && nat_lt t.date (last_day c))
    && ((is_open t c || not (is_long c.maturity || option)) && on_time t c c.maturity)

-- the period is one of its maturity, and it is due
abbrev pub keeps_dates : Table → Listed → Bool
keeps_dates t c = (starts_on c.maturity c.first && nat_le (last_day c) 36524) && is_due t (option_in t c.instrument) c

-- what it is refused for, apart from its coming when 128 are there
abbrev pub terms_refusal : Table → Listed → Option Refusal
terms_refusal t c =
    cond (not (holds_in Contract (pos c.number) && holds_in Instrument (pos c.instrument))) (Some OutOfRange)
    (cond (not (is_numbered c.instrument t.instruments)) (Some UnknownReference)
    (cond (is_repeated c t.contracts) (Some RepeatedKey)
    (cond (not (keeps_dates t c)) (Some DateRule) None)))

-- 2 a number out of range, 3 instrument not listed, 4 a key again, 5 a date rule, 7 128 are there
abbrev pub contract_refusal : Table → Listed → Option Refusal
contract_refusal t c =
    cond (not (holds_in Contract (pos c.number) && holds_in Instrument (pos c.instrument))) (Some OutOfRange)
    (cond (not (is_numbered c.instrument t.instruments)) (Some UnknownReference)
    (cond (is_repeated c t.contracts) (Some RepeatedKey)
    (cond (not (keeps_dates t c)) (Some DateRule)
    (cond (nat_le 128 (size t)) (Some TooLong) None))))

-- the answer to a row that is added
abbrev pub answer_by : Option Refusal → Result (Unit {0}) Refusal
answer_by None = Ok tt
answer_by (Some e) = Err e

-- ---- what every table keeps: each row meets no refusal beside the rows before it
abbrev pub InstrumentsKept : List Instr → Type 0
InstrumentsKept is = (k : ℕ) (d : Instr) → k < length is → is_some (instrument_refusal (take k is) (get_or is k d).number) ≡ false

abbrev pub up_to : ℕ → Table → Table
up_to k t = record { date = t.date; horizon = t.horizon; instruments = t.instruments; contracts = take k t.contracts }

abbrev pub ContractsKept : Table → Type 0
ContractsKept t = (k : ℕ) → k < size t → is_some (contract_refusal (up_to k t) (slice_index_or t.contracts k blank)) ≡ false
