-- The published hours come out.
use Rattle.std.proofs.Common.{◌≡◌, ℕ, zero, suc, ◌+◌, ◌/◌, ◌%◌, ◌^◌, ◌<◌, true, refl, ap, ◌∙◌, ap₂, pow-suc, arith}
use lib.Count.{ones, ones_in, ones_step}
use Rattle.days.specs.Months.{month_of, month_start, month_length, lengths, month_from, start_from}
use Rattle.days.specs.Days.{day_of}
use Rattle.calendar.specs.Examples.{published, every}
use Rattle.calendar.specs.Hours.{hours_from}
use Rattle.calendar.specs.Loads.{load_mask, delivers, last_sunday_of}
use Rattle.calendar.specs.declared.load.Load.TheVariants.{Base}
use Rattle.calendar.proofs.Masks.{mask_small}

-- the ones of a number of k bits, counted bit by bit
ones_counted : (k n : ℕ) → n < 2 ^ k → ones n ≡ ones_in k n
unfolding ones ones_in
ones_counted zero n h = let e : n ≡ 0 = omega arith in ap ones e
ones_counted (suc k) n h = let p = pow-suc 2 k in ones_step n ∙ ap (λ x. n % 2 + x) (ones_counted k (n / 2) (omega arith))

counted : (ℕ → ℕ) → ℕ → ℕ → ℕ
counted mask a zero = 0
counted mask a (suc n) = counted mask a n + ones_in 25 (mask (a + n))

hours_counted : (a n : ℕ) → hours_from (load_mask Base) a n ≡ counted (load_mask Base) a n
unfolding hours_from counted load_mask
hours_counted a zero = refl
hours_counted a (suc n) = ap₂ ◌+◌ (hours_counted a n) (ones_counted 25 (load_mask Base (a + n)) (mask_small 25 (delivers Base (a + n))))

pub stand : every published ≡ true
unfolding day_of month_start month_length lengths start_from month_of month_from last_sunday_of counted ones_in load_mask
stand = simp hours_counted
