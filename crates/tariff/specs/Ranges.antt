-- Which numbers a row may hold.
use Rattle.std.specs.Prelude.{Bool, true, ◌&&◌, List, [], ◌∷◌, length, ℤ, pos, negsuc, ◌==◌, int_lt, nat_le}
use Rattle.std.specs.List.{list_all}
use Rattle.terms.specs.Ranges.{holds_in}
use Rattle.terms.specs.declared.amounts.Gains.{Gains}
use Rattle.terms.specs.declared.bounds.Bounds.TheVariants.{Price, Instrument, DayOffset, MonthOffset, Contract, Group, Delta, Gain, PriceRange, NetLimit, ExtraPercent, CreditPercent}
use Rattle.tariff.specs.Said.{Ranged}
use Rattle.tariff.specs.declared.rows.Credit.{Credit}
use Rattle.tariff.specs.declared.rows.LineName.{LineName}
use Rattle.tariff.specs.declared.rows.LineName.TheVariants.{Day, Rest, Own}
use Rattle.tariff.specs.declared.rows.Prices.{Prices}
use Rattle.tariff.specs.declared.rows.Risk.{Risk}
use Rattle.tariff.specs.declared.rows.Step.{Step}

abbrev pub prices_hold : Prices → Bool
prices_hold p = holds_in Price p.today && holds_in Price p.before

abbrev pub name_holds : LineName → Bool
name_holds (Day u k) = holds_in Instrument (pos u) && holds_in DayOffset (pos k)
name_holds (Rest u m) = holds_in Instrument (pos u) && holds_in MonthOffset (pos m)
name_holds (Own n) = holds_in Contract (pos n)

-- sixteen of them
abbrev pub gains_hold : Gains → Bool
gains_hold g = length g.each == 16 && list_all (holds_in Gain) g.each

abbrev pub risk_holds : Risk → Bool
risk_holds r = holds_in Group (pos r.group) && (holds_in Delta r.delta && (holds_in Price r.price && gains_hold r.gains))

-- a limit and its percentage in range, and the limit above the one before
abbrev pub step_follows : ℤ → Step → Bool
step_follows before s = holds_in NetLimit s.limit && (holds_in ExtraPercent (pos s.percent) && int_lt before s.limit)

abbrev pub rise_from : ℤ → List Step → Bool
rise_from before [] = true
rise_from before (s ∷ ss) = step_follows before s && rise_from s.limit ss

-- at most three; no limit lies below 0, so that any may be the first
abbrev pub steps_hold : List Step → Bool
steps_hold ss = nat_le (length ss) 3 && rise_from (negsuc 0) ss

abbrev pub range_holds : Ranged → Bool
range_holds r = holds_in Group (pos r.group) && (holds_in PriceRange (pos r.range) && steps_hold r.steps)

abbrev pub credit_holds : Credit → Bool
credit_holds c = holds_in Group (pos c.first) && (holds_in Group (pos c.second) && holds_in CreditPercent (pos c.percent))
