-- From what the contracts hold to the lines, before netting and after it.
use Rattle.std.specs.Prelude.{ℕ, zero, suc, ◌+◌, Bool, true, cond, not, ◌&&◌, List, [], ◌∷◌, ◌++◌, ℤ, pos, ◌==◌}
use Rattle.std.specs.List.{range_with_len}
use Rattle.days.specs.Months.{month_of}
use Rattle.calendar.specs.Periods.{alike}
use Rattle.calendar.specs.declared.maturity.Maturity.{Maturity}
use Rattle.calendar.specs.declared.maturity.Maturity.TheVariants.{Month, Quarter, Season, Year}
use Rattle.contracts.specs.Lines.{Line, day, rest, own, any_below, reaches}
use Rattle.contracts.specs.Table.{Listed, Table, nth, size, is_open, option_in}
use Rattle.positions.specs.Net.{Relation, Places, net_all}
use Rattle.positions.specs.Sums.{sum_to}

-- a line's position, of the quantities q by place
abbrev pub position : Table → (ℕ → ℤ) → Line → ℤ
position t q l = sum_to (λ i. cond (reaches t i l) (q i) (pos 0)) (size t)

-- ---- the relations
-- a maturity that is made of `count` parts of `months` months each
pub record Tier : Type 0 where
  pub whole : Maturity
  pub part : Maturity
  pub months : ℕ
  pub count : ℕ

abbrev pub years : Tier
years = record { whole = Year; part = Quarter; months = 3; count = 4 }

abbrev pub seasons : Tier
seasons = record { whole = Season; part = Quarter; months = 3; count = 2 }

abbrev pub quarters : Tier
quarters = record { whole = Quarter; part = Month; months = 1; count = 3 }

-- an open contract of instrument v and maturity x that starts in month m
abbrev pub part_at : Table → ℕ → Maturity → ℕ → Listed → Bool
part_at t v x m c = ((c.instrument == v && alike c.maturity x) && is_open t c) && month_of c.first == m

abbrev pub starts_in : Table → ℕ → Maturity → ℕ → ℕ → Bool
starts_in t v x m i = part_at t v x m (nth t i)

-- the place of one, where there is one
unfoldable pub seek : (ℕ → Bool) → ℕ → ℕ
seek p zero = 0
seek p (suc n) = cond (p n) n (seek p n)

-- the places of c parts of n months each, from month m on, and whether all are listed
abbrev pub parts : Table → ℕ → Maturity → ℕ → ℕ → ℕ → List ℕ
parts t v x n m zero = []
parts t v x n m (suc c) = seek (starts_in t v x m) (size t) ∷ parts t v x n (m + n) c

abbrev pub all_there : Table → ℕ → Maturity → ℕ → ℕ → ℕ → Bool
all_there t v x n m zero = true
all_there t v x n m (suc c) = any_below (starts_in t v x m) (size t) && all_there t v x n (m + n) c

-- an open contract, no option, of the longer maturity
abbrev pub whole_of : Table → Tier → Listed → Bool
whole_of t x c = not (option_in t c.instrument) && (alike c.maturity x.whole && is_open t c)

-- whose parts are all listed and open
abbrev pub is_listed : Table → Tier → ℕ → Bool
is_listed t x i = whole_of t x (nth t i) && all_there t (nth t i).instrument x.part x.months (month_of (nth t i).first) x.count

abbrev pub relation_of : Table → Tier → ℕ → Relation
relation_of t x i = record { first = i; others = parts t (nth t i).instrument x.part x.months (month_of (nth t i).first) x.count }

-- in the table's order
abbrev pub relations_over : Table → Tier → List ℕ → List Relation
relations_over t x [] = []
relations_over t x (i ∷ is) = cond (is_listed t x i) (relation_of t x i ∷ relations_over t x is) (relations_over t x is)

abbrev pub relations_of : Table → Tier → List Relation
relations_of t x = relations_over t x (range_with_len 0 (size t))

-- each year with its quarters, then each six months, then each quarter with its months
unfoldable pub relations : Table → List Relation
relations t = relations_of t years ++ (relations_of t seasons ++ relations_of t quarters)

-- ---- after netting
-- the positions of the contracts' own lines
abbrev pub owned : Table → (ℕ → ℤ) → Places
owned t q i = position t q (own i)

abbrev pub netted : Table → (ℕ → ℤ) → Line → ℤ
netted t q (day u e) = position t q (day u e)
netted t q (rest u m) = position t q (rest u m)
netted t q (own i) = net_all (relations t) (owned t q) i
