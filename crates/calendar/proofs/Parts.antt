-- Periods by the months, quarters and years that they are made of.
use Rattle.std.proofs.Common.{◌≡◌, ℕ, zero, suc, ◌+◌, ◌-◌, ◌*◌, ◌%◌, ◌<◌, ◌≤◌, true, not, eqb, ltb, Some, None, sym, refl, ap, ◌∙◌, subst, inl, inr, arith}
use Rattle.std.proofs.lemmas.Bool.{cases_lt, and_parts, and_from, eqb-true, eq-eqb, ne_eqb, lt-ltb, le-ltb, cond-true, cond-false, not_from_true, not_from_false}
use Rattle.days.specs.Days.{day_within}
use Rattle.days.specs.Months.{month_of, month_start, month_end}
use Rattle.days.proofs.Tiling.{month_next, month_within, month_only, start_mono, length_usual}
use Rattle.calendar.specs.Periods.{starts_on, last_of, first_of_month, Tiled, MadeOf}
use Rattle.calendar.specs.declared.maturity.Maturity.{Maturity}
use Rattle.calendar.specs.declared.maturity.Maturity.TheVariants.{SingleDay, Weekend, Workdays, Week, RestOfMonth, Month, Quarter, Season, Year}

months_after : (n d : ℕ) → 1 ≤ n → d ≤ month_start (month_of d + n) - 1
months_after n d h =
    let w = month_within d in
    let s = start_mono (month_of d + 1) (month_of d + n) (omega arith) in
    omega arith

-- a period ends no earlier than it starts
pub last_after : (x : Maturity) (d : ℕ) → d ≤ last_of x d
last_after SingleDay d = omega arith
last_after Weekend d = omega arith
last_after Workdays d = omega arith
last_after Week d = omega arith
last_after RestOfMonth d = months_after 1 d (omega arith)
last_after Month d = months_after 1 d (omega arith)
last_after Quarter d = months_after 3 d (omega arith)
last_after Season d = months_after 6 d (omega arith)
last_after Year d = months_after 12 d (omega arith)

first_month : (m : ℕ) → month_of (month_start m) ≡ m
first_month m =
    let n = month_next m in
    let u = length_usual m in
    month_only (month_start m) m (omega arith) (omega arith)

first_is : (m : ℕ) → first_of_month (month_start m) ≡ true
first_is m = eq-eqb _ _ (ap month_start (first_month m))

-- the day after n months from the first of month m
after_months : (m n : ℕ) → 1 ≤ n → month_start (month_of (month_start m) + n) - 1 + 1 ≡ month_start (m + n)
after_months m n h =
    let e = ap (λ k. month_start (k + n)) (first_month m) in
    let s = start_mono m (m + n) (omega arith) in
    omega arith

tiled_months : (n m e : ℕ) → e ≡ month_start (m + n) → Tiled Month n (month_start m) e
tiled_months zero m e h = let z : m + 0 ≡ m = omega arith in sym (h ∙ ap month_start z)
tiled_months (suc n) m e h =
    let z : m + suc n ≡ m + 1 + n = omega arith in
    (first_is m, subst (λ a. Tiled Month n a e) (sym (after_months m 1 (omega arith))) (tiled_months n (m + 1) e (h ∙ ap month_start z)))

tiled_quarters : (n m e : ℕ) → m % 3 ≡ 0 → e ≡ month_start (m + 3 * n) → Tiled Quarter n (month_start m) e
tiled_quarters zero m e q h = let z : m + 3 * 0 ≡ m = omega arith in sym (h ∙ ap month_start z)
tiled_quarters (suc n) m e q h =
    let z : m + 3 * suc n ≡ m + 3 + 3 * n = omega arith in
    let r : month_of (month_start m) % 3 ≡ 0 = omega (arith, first_month m) in
    (and_from _ _ (first_is m) (eq-eqb _ 0 r), subst (λ a. Tiled Quarter n a e) (sym (after_months m 3 (omega arith))) (tiled_quarters n (m + 3) e (omega arith) (h ∙ ap month_start z)))

-- the same from a first day d of a month
module _ (d : ℕ) (first : first_of_month d ≡ true) where
  at_start : month_start (month_of d) ≡ d
  at_start = eqb-true _ _ first

  after : (n : ℕ) → 1 ≤ n → month_start (month_of d + n) - 1 + 1 ≡ month_start (month_of d + n)
  after n h = let s = start_mono (month_of d) (month_of d + n) (omega arith) in omega arith

  months_tiled : (n : ℕ) → 1 ≤ n → Tiled Month n d (month_start (month_of d + n) - 1 + 1)
  months_tiled n h = subst (λ a. Tiled Month n a (month_start (month_of d + n) - 1 + 1)) at_start (tiled_months n (month_of d) _ (after n h))

  quarters_from : (n k : ℕ) → k ≡ 3 * n → 1 ≤ n → month_of d % 3 ≡ 0 → Tiled Quarter n d (month_start (month_of d + k) - 1 + 1)
  quarters_from n k e h q = subst (λ a. Tiled Quarter n a (month_start (month_of d + k) - 1 + 1)) at_start (tiled_quarters n (month_of d) _ q (after k (omega arith) ∙ ap (λ j. month_start (month_of d + j)) e))

pub made_of : (x : Maturity) (d : ℕ) → starts_on x d ≡ true → MadeOf x d (last_of x d)
unfolding month_end
made_of SingleDay d s = refl
made_of Weekend d s = (refl, (refl, refl))
made_of Workdays d s = (refl, (refl, (refl, (refl, (refl, omega arith)))))
made_of Week d s = (refl, (refl, (refl, (refl, (refl, (refl, (refl, omega arith)))))))
made_of RestOfMonth d s = refl
made_of Month d s = (sym (at_start d s), refl)
made_of Quarter d s = months_tiled d (and_parts _ _ s).0 3 (omega arith)
made_of Season d s =
    let p = and_parts (first_of_month d) (eqb (month_of d % 6) 3) s in
    let q = eqb-true (month_of d % 6) 3 p.1 in
    quarters_from d p.0 2 6 refl (omega arith) (omega arith)
made_of Year d s =
    let p = and_parts (first_of_month d) (eqb (month_of d % 12) 0) s in
    let q = eqb-true (month_of d % 12) 0 p.1 in
    quarters_from d p.0 4 12 refl (omega arith) (omega arith)

-- ---- a day that may lie past the end of 2099
pub within_some : (n k : ℕ) → Some k ≡ day_within n → (k ≡ n) × (n < 36525)
within_some n k e = elim (cases_lt n 36525) [
  | inl a ↦ (let v : day_within n ≡ Some n = cond-true (ltb n 36525) (Some n) None (lt-ltb n 36525 a) in (cc, a))
  | inr a ↦ (let v : day_within n ≡ None = cond-false (ltb n 36525) (Some n) None (le-ltb n 36525 a) in let z : ◌≡◌ {A = ℕ} 0 1 = cc in absurd (omega arith))
]

-- ---- the last week of a month
last_week : (d : ℕ) → month_end d - d < 7 → month_of (d + 7) ≡ month_of d → ⊥
unfolding month_end
last_week d h e =
    let w = month_within (d + 7) in
    let s = ap (λ m. month_start (m + 1)) e in
    omega arith

earlier_week : (d : ℕ) → 7 ≤ month_end d - d → month_of (d + 7) ≡ month_of d
unfolding month_end
earlier_week d h =
    let w = month_within d in
    month_only (d + 7) (month_of d) (omega arith) (omega arith)

pub last_week_is : (d : ℕ) → ltb (month_end d - d) 7 ≡ not (eqb (month_of (d + 7)) (month_of d))
last_week_is d = elim (cases_lt (month_end d - d) 7) [
  | inl a ↦ lt-ltb _ 7 a ∙ sym (not_from_false _ (ne_eqb _ _ (last_week d a)))
  | inr a ↦ le-ltb _ 7 a ∙ sym (not_from_true _ (eq-eqb _ _ (earlier_week d a)))
]
