-- The first days of lines.
use Rattle.std.proofs.Common.{◌≡◌, ℕ, ◌+◌, ◌-◌, ◌<◌, ◌≤◌, ltb, Some, None, Option, refl, ap, ◌∙◌, inl, inr, arith}
use Rattle.std.proofs.lemmas.Bool.{cases_lt, cond-true, lt-ltb}
use Rattle.days.specs.Days.{numbered, day_within, day_found}
use Rattle.days.specs.declared.day.Day.{Day}
use Rattle.days.specs.Months.{lengths, month_from, start_from, month_of, month_start, month_end}
use Rattle.days.proofs.Tiling.{month_within}
use Rattle.calendar.proofs.Parts.{within_some}
use Rattle.contracts.specs.Rows.{row_in}
use Rattle.contracts.specs.declared.contract.Contract.{Contract}

-- 1 January 2100
after_all : 21000101 ≡ numbered 36525
unfolding numbered month_of month_start lengths month_from start_from
after_all = refl

-- the first day of a contract that is found; a blank row's is past the end
abbrev pub contract_first : Option Contract → ℕ
contract_first None = 21000101
contract_first (Some c) = numbered c.terms.first.number

pub contract_first-row : (found : Option Contract) → contract_first found ≡ numbered (row_in found).first
contract_first-row None = after_all
contract_first-row (Some c) = refl

-- the first day after a month, where there is one
abbrev pub day_first : Option Day → ℕ
day_first None = 21000101
day_first (Some d) = numbered d.number

past : (n : ℕ) → None ≡ day_within n → 36525 ≤ n
past n e = elim (cases_lt n 36525) [
  | inl a ↦ (let v : day_within n ≡ Some n = cond-true (ltb n 36525) (Some n) None (lt-ltb n 36525 a) in let z : ◌≡◌ {A = ℕ} 0 1 = cc in absurd (omega arith))
  | inr a ↦ a
]

-- the day after the last of day d's month
module _ (d last : ℕ) (end : last ≡ month_end d) where
  next_start : last + 1 ≡ month_start (month_of d + 1)
  unfolding month_end
  next_start =
      let e : last ≡ month_start (month_of d + 1) - 1 = end in
      let w = month_within d in
      omega arith

  pub day_first-next : last < 36525 → (found : Option Day) → day_found found ≡ day_within (last + 1) → day_first found ≡ numbered (month_start (month_of d + 1))
  day_first-next small (Some k) e = ap numbered ((within_some (last + 1) k.number e).0 ∙ next_start)
  day_first-next small None e =
      let p = past (last + 1) e in
      let s = next_start in
      let is : 36525 ≡ month_start (month_of d + 1) = omega arith in
      after_all ∙ ap numbered is
