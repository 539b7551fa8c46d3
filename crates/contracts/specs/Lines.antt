-- The lines of a table, which line takes a day, on which days a line delivers, and which lines a contract goes to.
use Rattle.std.specs.Prelude.{ℕ, zero, suc, ◌+◌, ◌-◌, Bool, false, cond, not, ◌&&◌, ◌||◌, List, [], ◌∷◌, ◌++◌, map, ◌==◌, nat_le, nat_lt}
use Rattle.std.specs.List.{range_with_len}
use Rattle.days.specs.Months.{month_of}
use Rattle.calendar.specs.Periods.{alike}
use Rattle.calendar.specs.declared.maturity.Maturity.TheVariants.{SingleDay, Weekend, Workdays, Week}
use Rattle.contracts.specs.Table.{Listed, Table, numbers, size, nth, last_day, is_open, covers}

-- the line of a day in an instrument, of the rest of a month, and of the contract at a place
pub data Line : Type 0 where
  day : ℕ → ℕ → Line
  rest : ℕ → ℕ → Line
  own : ℕ → Line

-- a line's instrument
abbrev pub instr_of : Table → Line → ℕ
instr_of t (day u e) = u
instr_of t (rest u m) = u
instr_of t (own i) = (nth t i).instrument

-- does the test hold of a number below n?
unfoldable pub any_below : (ℕ → Bool) → ℕ → Bool
any_below p zero = false
any_below p (suc n) = p n || any_below p n

-- ---- the lines, in order
abbrev pub is_day : Listed → Bool
is_day c = alike c.maturity SingleDay

-- an open contract has a line of its own, unless it is for a single day
abbrev pub has_line : Table → Listed → Bool
has_line t c = is_open t c && not (is_day c)

abbrev pub owns : Table → ℕ → List Listed → List Line
owns t i [] = []
owns t i (c ∷ cs) = cond (has_line t c) (own i ∷ owns t (suc i) cs) (owns t (suc i) cs)

-- an instrument's days up to the horizon, the rest of this month and of the next
abbrev pub timely : Table → ℕ → List Line
timely t u = map (day u) (range_with_len (t.date + 1) (t.horizon - t.date)) ++ (rest u (month_of t.date) ∷ rest u (month_of t.date + 1) ∷ [])

abbrev pub all_timely : Table → List ℕ → List Line
all_timely t [] = []
all_timely t (u ∷ us) = timely t u ++ all_timely t us

-- each instrument's, and then the contracts' own
abbrev pub lines : Table → List Line
lines t = all_timely t (numbers t) ++ owns t 0 t.contracts

-- ---- which line takes a day
-- an open contract that has day d, wholly in d's month
abbrev pub within : Table → Listed → ℕ → Bool
within t c d = (is_open t c && covers c d) && (month_of c.first == month_of d && month_of (last_day c) == month_of d)

abbrev pub is_week : Listed → Bool
is_week c = alike c.maturity Week

abbrev pub is_part : Listed → Bool
is_part c = alike c.maturity Workdays || alike c.maturity Weekend

abbrev pub week_with : Table → ℕ → ℕ → Listed → Bool
week_with t u d c = (c.instrument == u && is_week c) && within t c d

abbrev pub part_with : Table → ℕ → ℕ → Listed → Bool
part_with t u d c = (c.instrument == u && is_part c) && within t c d

abbrev pub week_has : Table → ℕ → ℕ → ℕ → Bool
week_has t u d i = week_with t u d (nth t i)

abbrev pub part_has : Table → ℕ → ℕ → ℕ → Bool
part_has t u d i = part_with t u d (nth t i)

abbrev pub some_week : Table → ℕ → ℕ → Bool
some_week t u d = any_below (week_has t u d) (size t)

abbrev pub some_part : Table → ℕ → ℕ → Bool
some_part t u d = any_below (part_has t u d) (size t)

-- past the horizon a week goes before its parts
abbrev pub own_takes_by : Table → Listed → ℕ → Bool
own_takes_by t c d = nat_lt t.horizon d && (week_with t c.instrument d c || (part_with t c.instrument d c && not (some_week t c.instrument d)))

abbrev pub own_takes : Table → ℕ → ℕ → Bool
own_takes t i d = own_takes_by t (nth t i) d

-- a day by the horizon is its day line's; a later one that no week or part of a week takes is its month's
abbrev pub takes : Table → Line → ℕ → Bool
takes t (day u e) d = e == d && nat_le d t.horizon
takes t (own i) d = own_takes t i d
takes t (rest u m) d = nat_lt t.horizon d && (month_of d == m && not (some_week t u d || some_part t u d))

-- ---- on which days a line delivers
abbrev pub delivers : Table → Line → ℕ → Bool
delivers t (day u e) d = e == d
delivers t (own i) d = covers (nth t i) d
delivers t (rest u m) d = takes t (rest u m) d

-- ---- which lines a contract goes to
abbrev pub is_day_line : ℕ → Line → Bool
is_day_line d (day u e) = e == d
is_day_line d (rest u m) = false
is_day_line d (own i) = false

abbrev pub is_own_line : ℕ → Line → Bool
is_own_line i (day u e) = false
is_own_line i (rest u m) = false
is_own_line i (own j) = j == i

-- one of its days after the date is taken by the line
abbrev pub gives_on : Table → Listed → Line → ℕ → Bool
gives_on t c l d = (covers c d && nat_lt t.date d) && takes t l d

abbrev pub gives : Table → Listed → Line → Bool
gives t c l = any_below (gives_on t c l) (suc (last_day c))

abbrev pub goes_to : Table → ℕ → Line → Bool
goes_to t i l = cond (is_day (nth t i)) (is_day_line (nth t i).first l) (cond (is_open t (nth t i)) (is_own_line i l) (gives t (nth t i) l))

-- the contract at place i goes to the line with its whole quantity
abbrev pub reaches : Table → ℕ → Line → Bool
reaches t i l = instr_of t l == (nth t i).instrument && goes_to t i l
