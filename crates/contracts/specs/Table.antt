-- A contract table as lists and numbers. Days and months are numbers, as in the calendar.
use Rattle.std.specs.Prelude.{ℕ, Bool, false, cond, ◌&&◌, List, [], ◌∷◌, map, length, Some, None, Option, ◌==◌, nat_le, nat_lt, slice_index_or}
use Rattle.calendar.specs.Periods.{last_of}
use Rattle.calendar.specs.declared.maturity.Maturity.{Maturity}
use Rattle.calendar.specs.declared.maturity.Maturity.TheVariants.{SingleDay}
use Rattle.contracts.specs.Kinds.{is_option}
use Rattle.contracts.specs.declared.kind.Kind.{Kind}

-- an instrument, without its profile
pub record Instr : Type 0 where
  pub number : ℕ
  pub kind : Kind

-- a contract: its number, its instrument's number, how long and from when it delivers, its last registration day
pub record Listed : Type 0 where
  pub number : ℕ
  pub instrument : ℕ
  pub maturity : Maturity
  pub first : ℕ
  pub registration : ℕ

pub record Table : Type 0 where
  pub date : ℕ
  pub horizon : ℕ
  pub instruments : List Instr
  pub contracts : List Listed

abbrev pub numbers : Table → List ℕ
numbers t = map (λ i. i.number) t.instruments

abbrev pub size : Table → ℕ
size t = length t.contracts

-- what stands past the end of a table delivers on no day
abbrev pub blank : Listed
blank = record { number = 0; instrument = 0; maturity = SingleDay; first = 36525; registration = 0 }

abbrev pub nth : Table → ℕ → Listed
nth t i = slice_index_or t.contracts i blank

abbrev pub last_day : Listed → ℕ
last_day c = last_of c.maturity c.first

-- a contract is open while its last registration day lies after the date, and then running
abbrev pub is_open : Table → Listed → Bool
is_open t c = nat_lt t.date c.registration

abbrev pub covers : Listed → ℕ → Bool
covers c d = nat_le c.first d && nat_le d (last_day c)

-- the kind of an instrument, by its number
abbrev pub kind_in : List Instr → ℕ → Option Kind
kind_in [] u = None
kind_in (i ∷ is) u = cond (i.number == u) (Some i.kind) (kind_in is u)

abbrev pub is_some_option : Option Kind → Bool
is_some_option None = false
is_some_option (Some k) = is_option k

-- is it of options?
abbrev pub option_in : Table → ℕ → Bool
option_in t u = is_some_option (kind_in t.instruments u)
