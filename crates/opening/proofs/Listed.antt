-- The contracts of a table, as a book lists them.
use Rattle.std.proofs.Common.{◌≡◌, ℕ, ◌<◌, ◌≤◌, length, get_or, sym, ap, subst, inl, inr, arith}
use native.Mathlib.Bridge.{le_prop}
use native.Mathlib.Nat.{min-eq_left}
use Rattle.std.proofs.lemmas.List.{length-map, length-take-le}
use Rattle.std.proofs.lemmas.Bool.{cases_lt}
use Rattle.days.specs.declared.day.Day.{Day}
use Rattle.contracts.specs.Rules.{up_to, ContractsKept}
use Rattle.contracts.specs.Table.{Table, size, blank}
use Rattle.contracts.proofs.Keeping.{few_lt}
use Rattle.opening.specs.Views.{day_numbered, listing_of, listings_of}

-- a day goes by its number
day_path : (m n : ℕ) (p : m < 36525) (q : n < 36525) → m ≡ n → ◌≡◌ {A = Day} (record { number = m; within = p }) (record { number = n; within = q })
day_path m n p q e =
    let P : ℕ → Type 0 = λ k. (r : k < 36525) → ◌≡◌ {A = Day} (record { number = m; within = p }) (record { number = k; within = r }) in
    subst P e (λ r. ap (λ (s : m < 36525). record { number = m; within = s }) (le_prop p r)) q

pub same_day : (x : Day) → x ≡ day_numbered x.number
same_day x =
    let h = x.within in
    day_path x.number (day_numbered x.number).number x.within (day_numbered x.number).within (sym (min-eq_left (omega arith)))

-- a table has at most 128
pub few_contracts : (t : Table) → ContractsKept t → length (listings_of t) ≤ 128
few_contracts t kept =
    let n = length-map t.contracts (listing_of t.instruments) in
    elim (cases_lt 128 (size t)) [
      | inr h ↦ omega arith
      | inl h ↦ (
          let l = few_lt (up_to 128 t) (get_or t.contracts 128 blank) (kept 128 h) in
          let m = length-take-le 128 t.contracts (omega arith) in
          absurd (omega arith))
    ]
