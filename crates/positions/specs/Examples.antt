-- A published example of netting: a year of -5 with its quarters of 1, 2, 1 and 3.
use Rattle.std.specs.Prelude.{ℕ, List, [], ◌∷◌, map, ℤ, pos, negsuc}
use Rattle.calendar.specs.declared.maturity.Maturity.{Maturity}
use Rattle.calendar.specs.declared.maturity.Maturity.TheVariants.{Quarter, Year}
use Rattle.contracts.specs.Lines.{own}
use Rattle.contracts.specs.Table.{Listed, Table}
use Rattle.contracts.specs.declared.kind.Kind.TheVariants.{Future}
use Rattle.positions.specs.Net.{placed}
use Rattle.positions.specs.Netted.{netted}

-- a future that is open on 1 January 2000
abbrev pub opened : ℕ → Maturity → ℕ → Listed
opened n x first = record { number = n; instrument = 1; maturity = x; first = first; registration = 1 }

-- the year 2001 and its quarters, from 1 January, 1 April, 1 July and 1 October
abbrev pub year_and_quarters : Table
year_and_quarters = record {
  date = 0;
  horizon = 1;
  instruments = record { number = 1; kind = Future } ∷ [];
  contracts = opened 1 Year 366 ∷ opened 2 Quarter 366 ∷ opened 3 Quarter 456 ∷ opened 4 Quarter 547 ∷ opened 5 Quarter 639 ∷ [];
}

abbrev pub held_before : List ℤ
held_before = negsuc 4 ∷ pos 1 ∷ pos 2 ∷ pos 1 ∷ pos 3 ∷ []

-- what is left: -4 with 0, 1, 0 and 2
abbrev pub left_after : List ℤ
left_after = negsuc 3 ∷ pos 0 ∷ pos 1 ∷ pos 0 ∷ pos 2 ∷ []

-- the netted positions of the contracts at some places
abbrev pub netted_places : Table → List ℤ → List ℕ → List ℤ
netted_places t xs is = map (λ i. netted t (placed xs) (own i)) is
