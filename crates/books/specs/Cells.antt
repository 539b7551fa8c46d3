-- The ranges that every cell keeps to.
use Rattle.std.specs.Prelude.{Bool, ◌&&◌, ℤ, ◌+ℤ◌, ◌==◌, unsigned_abs}
use Rattle.terms.specs.Ranges.{holds_in}
use Rattle.terms.specs.declared.amounts.Amount.{Amount}
use Rattle.terms.specs.declared.bounds.Bounds.TheVariants.{Position, OpeningValue, TradedValue}
use Rattle.contracts.specs.declared.kind.Kind.{Kind}
use Rattle.contracts.specs.declared.kind.Kind.TheVariants.{Future, Forward, Swap, Option}

-- an opening value is kept for forwards and swaps, and is 0 for futures and options
abbrev pub value_within : Kind → ℤ → Bool
value_within Future v = unsigned_abs v == 0
value_within Forward v = holds_in OpeningValue v
value_within Swap v = holds_in OpeningValue v
value_within Option v = unsigned_abs v == 0

abbrev pub opens_within : Kind → Amount → Bool
opens_within k x = holds_in Position x.quantity && value_within k x.value

-- what was traded, beside an opening amount
abbrev pub trades_within : Amount → Amount → Bool
trades_within o x = holds_in Position (o.quantity +ℤ x.quantity) && holds_in TradedValue x.value
