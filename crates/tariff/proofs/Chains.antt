-- The chains of refusals of risk lines, price ranges and credits.
use Rattle.std.proofs.Common.{◌≡◌, ℕ, Bool, true, false, cond, not, eqb, leb, List, length, is_some, Some, None, Ok, Err, Option, Result, sym, refl, ap, ◌∙◌}
use Rattle.terms.specs.declared.refusal.Refusal.{Refusal}
use Rattle.terms.specs.declared.refusal.Refusal.TheVariants.{OutOfRange, TooLong}
use Rattle.contracts.proofs.Keeping.{passes}
use Rattle.contracts.specs.Rules.{answer_by}
use Rattle.contracts.specs.Table.{Table}
use Rattle.tariff.specs.Ranges.{name_holds, credit_holds}
use Rattle.tariff.specs.Rules.{named, rated_refusal, risk_refusal, percent_left, is_paired, credit_refusal}
use Rattle.tariff.specs.Said.{Rated}
use Rattle.tariff.specs.declared.rows.Credit.{Credit}
use Rattle.tariff.specs.declared.rows.LineName.{LineName}
use Rattle.tariff.specs.declared.rows.Risk.{Risk}

-- the answer of a table of n rows, where only the room is left to look at
pub room_answered : (o : Option Refusal) (most m n : ℕ) (r : Result (Unit {0}) Refusal) → m ≡ n → o ≡ cond (leb most m) (Some TooLong) None → r ≡ cond (leb most n) (Err TooLong) (Ok tt) → r ≡ answer_by o
room_answered o most m n r same e h = h ∙ by (leb most n) ∙ sym (ap answer_by (e ∙ ap (λ k. cond (leb most k) (Some TooLong) None) same))
  where
    by : (b : Bool) → cond b (Err TooLong) (Ok tt) ≡ answer_by (cond b (Some TooLong) None)
    by true = refl
    by false = refl

-- ---- where only the room is left
pub credit_room : (cs : List Credit) (c : Credit) → credit_holds c ≡ true → leb c.percent (percent_left cs) ≡ true → eqb c.first c.second ≡ false → is_paired c cs ≡ false → credit_refusal cs c ≡ cond (leb 64 (length cs)) (Some TooLong) None
credit_room cs c a b d e = rw (a, b, d, e)

-- a name in range adds no refusal
pub rated_passes : (t : Table) (rs : List Rated) (n : LineName) (r : Risk) → is_some (risk_refusal t rs n r) ≡ false → is_some (rated_refusal t rs (record { line = named t n; risk = r })) ≡ false
rated_passes t rs n r h = (passes (not (name_holds n)) OutOfRange (rated_refusal t rs (record { line = named t n; risk = r })) h).1
