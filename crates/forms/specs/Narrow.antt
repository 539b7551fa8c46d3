-- Numbers of a file in narrower types: one that does not fit becomes one that is out of its range.
use Rattle.std.specs.Prelude.{◌≡◌, ℕ, ◌-◌, ◌^◌, cond, List, [], ◌∷◌, ℤ, pos, negsuc, nat_le, nat_lt}
use Rattle.std.specs.List.{AllByRecursion}
use Rattle.terms.specs.Ranges.{holds_in}
use Rattle.terms.specs.declared.bounds.Bounds.{Bounds}
use Rattle.terms.specs.declared.bounds.Bounds.TheVariants.{Price, Position, Account, Contract, Instrument, Agent, Group, Entry, Delta, PriceRange, ExtraPercent, CreditPercent, ConcentrationLimit, DayOffset, MonthOffset}

-- the number where it lies from 0 to the most, or else another
abbrev pub up_to : ℕ → ℕ → ℤ → ℕ
up_to most other (pos n) = cond (nat_le n most) n other
up_to most other (negsuc n) = other

-- agents, instruments, groups, offsets, months and percentages, which all end below 255
abbrev pub in8 : ℤ → ℕ
in8 z = up_to 255 255 z

-- accounts, contracts and entries, which all begin at 1
abbrev pub in16 : ℤ → ℕ
in16 z = up_to 65535 0 z

-- price ranges
abbrev pub range_in16 : ℤ → ℕ
range_in16 z = up_to 65535 65535 z

-- concentration limits
abbrev pub in32 : ℤ → ℕ
in32 z = up_to (2 ^ 32 - 1) (2 ^ 32 - 1) z

-- prices, quantities and deltas; negsuc n is -(n + 1)
abbrev pub in_signed32 : ℤ → ℤ
in_signed32 (pos n) = cond (nat_lt n (2 ^ 31)) (pos n) (pos (2 ^ 31 - 1))
in_signed32 (negsuc n) = cond (nat_lt n (2 ^ 31)) (negsuc n) (pos (2 ^ 31 - 1))

-- ---- what is kept
-- each of the ranges holds the one number exactly when it holds the other
abbrev pub SameIn : List Bounds → ℤ → ℤ → Type 0
SameIn bs m n = AllByRecursion (λ b. holds_in b m ≡ holds_in b n) bs

-- the ranges that each width serves
abbrev pub small : List Bounds
small = Agent ∷ Instrument ∷ Group ∷ DayOffset ∷ MonthOffset ∷ ExtraPercent ∷ CreditPercent ∷ []

abbrev pub keys : List Bounds
keys = Account ∷ Contract ∷ Entry ∷ []

abbrev pub price_ranges : List Bounds
price_ranges = PriceRange ∷ []

abbrev pub limits : List Bounds
limits = ConcentrationLimit ∷ []

abbrev pub signed : List Bounds
signed = Price ∷ Position ∷ Delta ∷ []
