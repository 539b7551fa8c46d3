-- The hours of the days of a line, by a stretch outside which it does not deliver.
use Rattle.std.proofs.Common.{◌≡◌, ℕ, zero, suc, ◌+◌, ◌-◌, ◌<◌, ◌≤◌, Bool, true, false, cond, not, ◌&&◌, ◌||◌, eqb, ltb, Option, Some, None, refl, ap, add-one, arith}
use lib.Count.{ones}
use Rattle.std.proofs.lemmas.Bool.{and_parts, ltb-true, eqb-true, cond-false}
use Rattle.std.specs.Option.{unwrap_or}
use Rattle.days.specs.Days.{day_found, day_within}
use Rattle.days.specs.Months.{month_of, month_start}
use Rattle.days.proofs.Tiling.{month_within, start_mono}
use Rattle.days.specs.declared.day.Day.{Day}
use Rattle.calendar.proofs.Parts.{within_some}
use Rattle.contracts.specs.Hours.{hours_when}
use Rattle.contracts.specs.Lines.{rest, takes, some_week, some_part}
use Rattle.contracts.specs.Seen.{rest_month}
use Rattle.contracts.specs.Table.{Table}
use Rattle.contracts.specs.declared.line.RestOf.{RestOf}
use Rattle.contracts.specs.declared.line.RestOf.TheVariants.{ThisMonth, NextMonth}

pub rest_span : (t : Table) (u m d last : ℕ) → t.date < t.horizon → m ≤ month_of t.date + 1 → takes t (rest u m) d ≡ true → last ≡ month_start (month_of t.date + 1 + 1) - 1 → (t.date ≤ d) × (d ≤ last)
rest_span t u m d last ahead few e is =
    let p = and_parts (ltb t.horizon d) (eqb (month_of d) m && not (some_week t u d || some_part t u d)) e in
    let q = and_parts (eqb (month_of d) m) (not (some_week t u d || some_part t u d)) p.1 in
    let late = ltb-true t.horizon d p.0 in
    let same = eqb-true (month_of d) m q.0 in
    let w = month_within d in
    let s = start_mono (month_of d + 1) (month_of t.date + 1 + 1) (omega arith) in
    (omega arith, omega arith)

pub near_month : (date : ℕ) (which : RestOf) → rest_month date which ≤ month_of date + 1
near_month date ThisMonth = omega arith
near_month date NextMonth = omega arith

-- the last day of a span that goes to the end of 2099 where there is no such day
pub by_end : (found : Option Day) (end last : Day) (n d : ℕ) → day_found found ≡ day_within n → last ≡ unwrap_or found end → end.number ≡ 36524 → d < 36525 → d ≤ n → d ≤ last.number
by_end None end last n d is e final small low = let u = ap (λ (x : Day). x.number) e in omega arith
by_end (Some x) end last n d is e final small low =
    let w = within_some n x.number is in
    let u = ap (λ (y : Day). y.number) e in
    omega arith

-- ---- days one by one
pub hours_none : (on : ℕ → Bool) (mask : ℕ → ℕ) (n : ℕ) → ((d : ℕ) → d < n → on d ≡ false) → hours_when on mask n ≡ 0
unfolding hours_when
hours_none on mask zero h = refl
hours_none on mask (suc n) h =
    let i = hours_none on mask n (λ d l. h d (omega arith)) in
    let z = cond-false (on n) (ones (mask n)) 0 (h n (omega arith)) in
    omega arith

pub hours_more : (on : ℕ → Bool) (mask : ℕ → ℕ) (n : ℕ) → hours_when on mask (n + 1) ≡ hours_when on mask n + cond (on n) (ones (mask n)) 0
unfolding hours_when
hours_more on mask n = ap (hours_when on mask) (add-one n)

-- nothing more is delivered from n on
pub hours_past : (on : ℕ → Bool) (mask : ℕ → ℕ) (n k : ℕ) → ((d : ℕ) → n ≤ d → d < n + k → on d ≡ false) → hours_when on mask (n + k) ≡ hours_when on mask n
hours_past on mask n zero h = let z : n + 0 ≡ n = omega arith in ap (hours_when on mask) z
hours_past on mask n (suc k) h =
    let i = hours_past on mask n k (λ d a b. h d a (omega arith)) in
    let s : n + suc k ≡ n + k + 1 = omega arith in
    let m = hours_more on mask (n + k) in
    let z = cond-false (on (n + k)) (ones (mask (n + k))) 0 (h (n + k) (omega arith) (omega arith)) in
    let e = ap (hours_when on mask) s in
    omega arith

pub no_delivery : (b : Bool) → (b ≡ true → ⊥) → b ≡ false
no_delivery true h = absurd (h refl)
no_delivery false h = refl
