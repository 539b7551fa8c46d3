-- The named ranges of numbers.
use Rattle.std.specs.Prelude.{Bool, cond, ◌&&◌, ℤ, pos, neg_ℤ, Ok, Err, Result, int_le}
use Rattle.terms.specs.declared.refusal.Refusal.{Refusal}
use Rattle.terms.specs.declared.refusal.Refusal.TheVariants.{OutOfRange}
use Rattle.terms.specs.declared.bounds.Bounds.{Bounds}
use Rattle.terms.specs.declared.bounds.Bounds.TheVariants.{Price, Position, OpeningValue, TradedValue, GivenAmount, Account, Contract, Instrument, Agent, Group, Entry, Delta, Gain, PriceRange, NetLimit, ExtraPercent, CreditPercent, ConcentrationLimit, DayOffset, MonthOffset}

abbrev pub highest : Bounds → ℤ
highest Price = pos 500000
highest Position = pos 10000
highest OpeningValue = pos 10000000000
highest TradedValue = pos 100000000000
highest GivenAmount = pos 1000000000000000
highest Account = pos 65535
highest Contract = pos 65535
highest Instrument = pos 8
highest Agent = pos 99
highest Group = pos 64
highest Entry = pos 4096
highest Delta = pos 1000000
highest Gain = pos 100000000
highest PriceRange = pos 10000
highest NetLimit = pos 1000000000000000
highest ExtraPercent = pos 200
highest CreditPercent = pos 100
highest ConcentrationLimit = pos 320000
highest DayOffset = pos 14
highest MonthOffset = pos 1

-- what may be negative goes as far below zero as above; what counts things starts at 1; the others at 0
abbrev pub lowest : Bounds → ℤ
lowest Price = neg_ℤ (highest Price)
lowest Position = neg_ℤ (highest Position)
lowest OpeningValue = neg_ℤ (highest OpeningValue)
lowest TradedValue = neg_ℤ (highest TradedValue)
lowest GivenAmount = neg_ℤ (highest GivenAmount)
lowest Account = pos 1
lowest Contract = pos 1
lowest Instrument = pos 1
lowest Agent = pos 1
lowest Group = pos 1
lowest Entry = pos 1
lowest Delta = neg_ℤ (highest Delta)
lowest Gain = neg_ℤ (highest Gain)
lowest PriceRange = pos 0
lowest NetLimit = pos 0
lowest ExtraPercent = pos 0
lowest CreditPercent = pos 0
lowest ConcentrationLimit = pos 0
lowest DayOffset = pos 1
lowest MonthOffset = pos 0

abbrev pub holds_in : Bounds → ℤ → Bool
holds_in b n = int_le (lowest b) n && int_le n (highest b)

abbrev pub admitted : Bounds → ℤ → Result ℤ Refusal
admitted b n = cond (holds_in b n) (Ok n) (Err OutOfRange)
