-- Months and their last days, and maturities that are alike.
use Rattle.std.proofs.Common.{◌≡◌, ℕ, ◌+◌, ◌-◌, ◌<◌, ◌≤◌, true, Ok, refl, ap, inl, inr, arith}
use Rattle.std.proofs.lemmas.Bool.{cases_lt, eqb-true}
use Rattle.days.specs.Months.{month_of, month_start, month_end}
use Rattle.days.proofs.Tiling.{month_next, month_within, month_only, start_mono, length_usual}
use Rattle.calendar.specs.Periods.{maturity_letter, maturity_of, alike}
use Rattle.calendar.specs.declared.maturity.Maturity.{Maturity}
use Rattle.calendar.specs.declared.maturity.Maturity.TheVariants.{SingleDay, Weekend, Workdays, Week, RestOfMonth, Month, Quarter, Season, Year}

-- ---- months
-- the last day of the month before month m + 1
pub last_in : (m : ℕ) → month_of (month_start (m + 1) - 1) ≡ m
last_in m =
    let n = month_next m in
    let u = length_usual m in
    month_only (month_start (m + 1) - 1) m (omega arith) (omega arith)

pub past_start : (m e : ℕ) → month_start m ≤ e → m ≤ month_of e
past_start m e h = elim (cases_lt (month_of e) m) [
  | inl a ↦ (let w = month_within e in let s = start_mono (month_of e + 1) m (omega arith) in absurd (omega arith))
  | inr a ↦ a
]

pub before_start : (m d : ℕ) → d < month_start m → month_of d < m
before_start m d h = elim (cases_lt (month_of d) m) [
  | inl a ↦ a
  | inr a ↦ (let w = month_within d in let s = start_mono m (month_of d) a in absurd (omega arith))
]

pub end_same : (d : ℕ) → month_of (month_end d) ≡ month_of d
unfolding month_end
end_same d = last_in (month_of d)

pub end_past : (d e : ℕ) → month_end d < e → month_of d < month_of e
unfolding month_end
end_past d e h = let p = past_start (month_of d + 1) e (omega arith) in omega arith

-- ---- maturities
letter_back : (x : Maturity) → maturity_of (maturity_letter x) ≡ Ok x
letter_back SingleDay = refl
letter_back Weekend = refl
letter_back Workdays = refl
letter_back Week = refl
letter_back RestOfMonth = refl
letter_back Month = refl
letter_back Quarter = refl
letter_back Season = refl
letter_back Year = refl

pub alike_same : (x y : Maturity) → alike x y ≡ true → x ≡ y
alike_same x y e =
    let p = letter_back x in
    let q = letter_back y in
    let s = ap maturity_of (eqb-true (maturity_letter x) (maturity_letter y) e) in
    cc
