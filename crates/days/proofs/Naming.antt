-- A day goes by one number, and other numbers name no day.
use Rattle.std.proofs.Common.{◌≡◌, ℕ, ◌+◌, ◌-◌, ◌*◌, ◌/◌, ◌%◌, ◌<◌, ◌≤◌, true, false, ◌&&◌, leb, ℤ, pos, negsuc, nat_abs, Ok, Err, Result, sym, refl, ap, ◌∙◌, inl, inr, arith}
use Rattle.std.specs.Int.{FitsUnsignedBits}
use Rattle.std.specs.Result.{OkIff, MatchResult, is_ok}
use Rattle.std.proofs.lemmas.Bool.{false≢true, cases_lt, cases_Bool, and_parts, and_from, leb-true, le-leb, cond-true, cond-false}
use Rattle.terms.specs.declared.refusal.Refusal.{Refusal}
use Rattle.terms.specs.declared.refusal.Refusal.TheVariants.{OutOfRange}
use Rattle.days.specs.Months.{month_of, month_start, month_length}
use Rattle.days.specs.Days.{numbered, exists, day_at, day_of, Named, century}
use Rattle.days.proofs.Tiling.{month_next, month_within, month_only, start_mono, length_usual, last_start, months_few}

-- day k of month m, from 1, lies by the end of 2099
pub day_fits : (m k : ℕ) → m < 1200 → 1 ≤ k → k ≤ month_length m → month_start m + (k - 1) < 36525
day_fits m k h l e =
    let n = month_next m in
    let s = start_mono (m + 1) 1200 (omega arith) in
    let t = last_start in
    omega arith

pub record Exists (y m k : ℕ) : Type 0 where
  pub from : 2000 ≤ y
  pub to : y ≤ 2099
  pub first_month_is : 1 ≤ m
  pub last_month_is : m ≤ 12
  pub day_from : 1 ≤ k
  pub day_to : k ≤ month_length (12 * (y - 2000) + (m - 1))

exists_true : (y m k : ℕ) → exists y m k ≡ true → Exists y m k
exists_true y m k e =
    let p = and_parts (leb 2000 y && leb y 2099) _ e in
    let q = and_parts (leb 2000 y) (leb y 2099) p.0 in
    let r = and_parts (leb 1 m && leb m 12) _ p.1 in
    let s = and_parts (leb 1 m) (leb m 12) r.0 in
    let t = and_parts (leb 1 k) _ r.1 in
    record {
      from = leb-true 2000 y q.0;
      to = leb-true y 2099 q.1;
      first_month_is = leb-true 1 m s.0;
      last_month_is = leb-true m 12 s.1;
      day_from = leb-true 1 k t.0;
      day_to = leb-true k _ t.1;
    }

exists_from : (y m k : ℕ) → Exists y m k → exists y m k ≡ true
exists_from y m k e =
    and_from _ _ (and_from _ _ (le-leb 2000 y e.from) (le-leb y 2099 e.to))
    (and_from _ _ (and_from _ _ (le-leb 1 m e.first_month_is) (le-leb m 12 e.last_month_is)) (and_from _ _ (le-leb 1 k e.day_from) (le-leb k _ e.day_to)))

abbrev place : ℕ → ℕ → ℕ → ℕ
place y m k = month_start (12 * (y - 2000) + (m - 1)) + (k - 1)

-- the day that stands at a date has its number
dated : (y m k d : ℕ) → Exists y m k → d ≡ place y m k → (d < century) × (numbered d ≡ 10000 * y + 100 * m + k)
unfolding numbered
dated y m k d e is =
    let a = e.from in
    let b = e.to in
    let f = e.first_month_is in
    let g = e.last_month_is in
    let h = e.day_from in
    let i = e.day_to in
    let M : ℕ = 12 * (y - 2000) + (m - 1) in
    let n = month_next M in
    let o = month_only d M (omega arith) (omega arith) in
    let s = ap month_start o in
    let l = day_fits M k (omega arith) h i in
    (omega arith, omega arith)

-- and a day's number is that of its date
date_of : (d : ℕ) → d < century → Exists (2000 + month_of d / 12) (month_of d % 12 + 1) (d - month_start (month_of d) + 1)
date_of d h =
    let w = month_within d in
    let f = months_few d h in
    let n = month_next (month_of d) in
    let a : 12 * (2000 + month_of d / 12 - 2000) + (month_of d % 12 + 1 - 1) ≡ month_of d = omega arith in
    let l = ap month_length a in
    record { from = omega arith; to = omega arith; first_month_is = omega arith; last_month_is = omega arith; day_from = omega arith; day_to = omega arith }

there : (y m k : ℕ) → exists y m k ≡ true → day_at y m k ≡ Ok (place y m k)
there y m k t = cond-true (exists y m k) (Ok (place y m k)) (Err OutOfRange) t

nowhere : (y m k : ℕ) → exists y m k ≡ false → day_at y m k ≡ Err OutOfRange
nowhere y m k f = cond-false (exists y m k) (Ok (place y m k)) (Err OutOfRange) f

found_at : (y m k d : ℕ) → day_at y m k ≡ Ok d → Exists y m k × (d ≡ place y m k)
found_at y m k d e = elim (cases_Bool (exists y m k)) [
  | inl t ↦ (let v = there y m k t in (exists_true y m k t, cc))
  | inr f ↦ (let v = nowhere y m k f in let z : ◌≡◌ {A = ℕ} 0 1 = cc in absurd (omega arith))
]

refused_at : (y m k : ℕ) (e : Refusal) → day_at y m k ≡ Err e → e ≡ OutOfRange
refused_at y m k e p = elim (cases_Bool (exists y m k)) [
  | inl t ↦ (let v = there y m k t in let z : ◌≡◌ {A = ℕ} 0 1 = cc in absurd (omega arith))
  | inr f ↦ (let v = nowhere y m k f in cc)
]

numbered_at : (d : ℕ) → d < century → day_at (2000 + month_of d / 12) (month_of d % 12 + 1) (d - month_start (month_of d) + 1) ≡ Ok d
numbered_at d h =
    let x = date_of d h in
    let w = month_within d in
    let a : 12 * (2000 + month_of d / 12 - 2000) + (month_of d % 12 + 1 - 1) ≡ month_of d = omega arith in
    let s = ap month_start a in
    let v : month_start (12 * (2000 + month_of d / 12 - 2000) + (month_of d % 12 + 1 - 1)) + (d - month_start (month_of d) + 1 - 1) ≡ d = omega arith in
    there _ _ _ (exists_from _ _ _ x) ∙ ap Ok v

-- the digits of a number of a date
pub digits_of : (d n : ℕ) → d < century → n ≡ numbered d → (n / 10000 ≡ 2000 + month_of d / 12) × (n / 100 % 100 ≡ month_of d % 12 + 1) × (n % 100 ≡ d - month_start (month_of d) + 1)
unfolding numbered
digits_of d n h e =
    let x = date_of d h in
    let k = x.day_from in
    let w = month_within d in
    let m = month_next (month_of d) in
    let u = length_usual (month_of d) in
    (omega arith, omega arith, omega arith)

pub day_of_number : (d n : ℕ) → d < century → n ≡ numbered d → day_of (pos n) ≡ Ok d
unfolding day_of
day_of_number d n h e = let g = digits_of d n h e in rw (g.0, g.1, g.2) (numbered_at d h)

pub named : (z : ℤ) → Named z (day_of z)
unfolding day_of
named (pos n) = record {
  is = λ d e. (
      let f = found_at (n / 10000) (n / 100 % 100) (n % 100) d e in
      let g = dated (n / 10000) (n / 100 % 100) (n % 100) d f.0 f.1 in
      let x = g.1 in
      let same : n ≡ numbered d = omega arith in
      (g.0, ap pos same));
  found = λ d h e. day_of_number d n h (cc);
  refused = refused_at (n / 10000) (n / 100 % 100) (n % 100);
}
named (negsuc n) = record {
  is = λ d e. (let z : ◌≡◌ {A = ℕ} 0 1 = cc in absurd (omega arith));
  found = λ d h e. (let z : ◌≡◌ {A = ℕ} 0 1 = cc in absurd (omega arith));
  refused = λ e p. cc;
}

-- what has more than four digits before the month names no day
too_large : (n : ℕ) → 4294967296 ≤ n → day_of (pos n) ≡ Err OutOfRange
unfolding day_of
too_large n h = elim (cases_Bool (exists (n / 10000) (n / 100 % 100) (n % 100))) [
  | inl t ↦ (let x = exists_true (n / 10000) (n / 100 % 100) (n % 100) t in let y = x.to in absurd (omega arith))
  | inr f ↦ nowhere (n / 10000) (n / 100 % 100) (n % 100) f
]

pub in_range : (z : ℤ) (n : ℕ) → FitsUnsignedBits 32 z → n ≡ nat_abs z → day_of z ≡ day_at (n / 10000) (n / 100 % 100) (n % 100)
unfolding day_of
in_range (pos m) n u e = ap (λ k. day_at (k / 10000) (k / 100 % 100) (k % 100)) (sym e)
in_range (negsuc m) n u e = absurd u

pub past_range : (z : ℤ) → (FitsUnsignedBits 32 z → ⊥) → day_of z ≡ Err OutOfRange
unfolding day_of
past_range (pos m) never = elim (cases_lt m 4294967296) [ inl a ↦ absurd (never a) | inr a ↦ too_large m a ]
past_range (negsuc m) never = refl

-- what a mapped error tells of the try before
pub tried_ok : {E F : Type 0} (r : Result ℕ E) (s : Result ℕ F) (n v : ℕ) (P : Type 0) (Q : E → Type 0) → OkIff r P v → MatchResult r (λ x. s ≡ Ok x) Q → is_ok s ≡ is_ok r → s ≡ Ok n → P × (n ≡ v)
tried_ok (Ok x) s n v P Q o m same is = (o.0, cc (o.1))
tried_ok (Err e) s n v P Q o m same is = absurd (false≢true (sym same ∙ ap is_ok is))

pub tried_err : {E F : Type 0} (r : Result ℕ E) (s : Result ℕ F) (f : F) (v : ℕ) (P : Type 0) → OkIff r P v → is_ok s ≡ is_ok r → s ≡ Err f → P → ⊥
tried_err (Ok x) s f v P o same is p = false≢true (sym (ap is_ok is) ∙ same)
tried_err (Err e) s f v P o same is p = o p
