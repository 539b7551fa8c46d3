-- The delivery hours of contracts and lines, under the profiles of their instruments.
use Rattle.std.specs.Prelude.{ℕ, zero, suc, ◌+◌, Bool, cond, List, [], ◌∷◌, ◌==◌, count_ones}
use Rattle.days.specs.Days.{century}
use Rattle.calendar.specs.Hours.{hours_between}
use Rattle.contracts.specs.Lines.{Line, instr_of, delivers}
use Rattle.contracts.specs.Table.{Listed, Table, last_day}
use Rattle.contracts.specs.declared.contract.Instrument.{Instrument}

-- the masks of an instrument, by its number
abbrev pub mask_in : {P : Type 0} → (P → ℕ → ℕ) → List (Instrument P) → ℕ → ℕ → ℕ
mask_in mask [] u d = 0
mask_in mask (i ∷ is) u d = cond (i.number == u) (mask i.profile d) (mask_in mask is u d)

-- the hours of the days below n of which the test holds
unfoldable pub hours_when : (ℕ → Bool) → (ℕ → ℕ) → ℕ → ℕ
hours_when on mask zero = 0
hours_when on mask (suc n) = hours_when on mask n + cond (on n) (count_ones (mask n)) 0

-- the hours of the days on which a line delivers, to the end of 2099
abbrev pub line_hours : (ℕ → ℕ → ℕ) → Table → Line → ℕ
line_hours masks t l = hours_when (delivers t l) (masks (instr_of t l)) century

-- the hours of all days of a contract
abbrev pub contract_hours : (ℕ → ℕ → ℕ) → Listed → ℕ
contract_hours masks c = hours_between (masks c.instrument) c.first (last_day c)
