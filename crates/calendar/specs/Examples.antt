-- Delivery hours that are published, of base load in 2014.
use Rattle.std.specs.Prelude.{ℕ, Bool, true, false, ◌&&◌, List, [], ◌∷◌, pos, Ok, Err, Result, ◌==◌}
use Rattle.terms.specs.declared.refusal.Refusal.{Refusal}
use Rattle.days.specs.Days.{day_of}
use Rattle.calendar.specs.Hours.{hours_between}
use Rattle.calendar.specs.Loads.{load_mask}
use Rattle.calendar.specs.declared.load.Load.TheVariants.{Base}

-- first and last day, by number, and the hours between
pub record Example : Type 0 where
  pub first : ℕ
  pub last : ℕ
  pub hours : ℕ

-- the four quarters, the year, and the day on which the clock went forward
abbrev pub published : List Example
published =
    record { first = 20140101; last = 20140331; hours = 2159 }
    ∷ record { first = 20140401; last = 20140630; hours = 2184 }
    ∷ record { first = 20140701; last = 20140930; hours = 2208 }
    ∷ record { first = 20141001; last = 20141231; hours = 2209 }
    ∷ record { first = 20140101; last = 20141231; hours = 8760 }
    ∷ record { first = 20140330; last = 20140330; hours = 23 }
    ∷ []

abbrev pub between : (ℕ → ℕ) → Result ℕ Refusal → Result ℕ Refusal → ℕ → Bool
between mask (Ok a) (Ok b) h = hours_between mask a b == h
between mask (Ok a) (Err e) h = false
between mask (Err e) b h = false

abbrev pub matches : Example → Bool
matches e = between (load_mask Base) (day_of (pos e.first)) (day_of (pos e.last)) e.hours

abbrev pub every : List Example → Bool
every [] = true
every (e ∷ es) = matches e && every es
