-- The three kinds of relation, as the code names them, and the parts that it finds.
use Rattle.std.specs.Prelude.{◌≡◌, ℕ, Bool, true, false, ◌&&◌, Some, None, Option}
use Rattle.arrayvec.specs.ArrayVec.{ArrayVec}
use Rattle.days.specs.Months.{month_of}
use Rattle.contracts.specs.Table.{Listed, Table}
use Rattle.contracts.specs.Lines.{any_below}
use Rattle.positions.specs.Netted as spec
use Rattle.positions.specs.Netted.{seek, parts, all_there, whole_of, years, seasons, quarters}
use Rattle.positions.specs.declared.tier.Tier.{Tier}
use Rattle.positions.specs.declared.tier.Tier.TheVariants.{Years, Seasons, Quarters}
use Rattle.positions.specs.declared.tier.Shape.{Shape}

abbrev pub shaped : Shape → spec.Tier
shaped s = record { whole = s.whole; part = s.part; months = s.months; count = s.count }

abbrev pub tier_of : Tier → spec.Tier
tier_of Years = years
tier_of Seasons = seasons
tier_of Quarters = quarters

-- the place that is sought below n, or that there is none
abbrev pub Sought : (ℕ → Bool) → ℕ → Option ℕ → Type 0
Sought p n None = any_below p n ≡ false
Sought p n (Some i) = (any_below p n ≡ true) × (i ≡ seek p n)

-- the parts of instrument v from month m on, or that one is not there
abbrev pub Found : Table → ℕ → spec.Tier → ℕ → Option (ArrayVec ℕ) → Type 0
Found t v x m None = all_there t v x.part x.months m x.count ≡ false
Found t v x m (Some p) = (all_there t v x.part x.months m x.count ≡ true) × (p.items ≡ parts t v x.part x.months m x.count)

-- is a contract to be netted: whole, its parts all listed and open?
abbrev pub is_netted : Table → spec.Tier → Listed → Bool
is_netted t x c = whole_of t x c && all_there t c.instrument x.part x.months (month_of c.first) x.count

-- the parts of a contract, or that it is not to be netted
abbrev pub PartsOf : Table → spec.Tier → Listed → Option (ArrayVec ℕ) → Type 0
PartsOf t x c None = is_netted t x c ≡ false
PartsOf t x c (Some p) = (is_netted t x c ≡ true) × (p.items ≡ parts t c.instrument x.part x.months (month_of c.first) x.count)
