-- Whether prices are final, and the letters of that.
use Rattle.std.specs.Prelude.{ℕ, Bool, true, false, cond, Ok, Err, Result, ◌==◌}
use Rattle.terms.specs.declared.refusal.Refusal.{Refusal}
use Rattle.terms.specs.declared.refusal.Refusal.TheVariants.{Form}
use Rattle.tariff.specs.declared.rows.Settlement.{Settlement}
use Rattle.tariff.specs.declared.rows.Settlement.TheVariants.{Final, Provisional}

-- F for final prices, P for provisional ones
abbrev pub settlement_of : ℕ → Result Settlement Refusal
settlement_of b = cond (b == 70) (Ok Final) (cond (b == 80) (Ok Provisional) (Err Form))

abbrev pub is_final : Settlement → Bool
is_final Final = true
is_final Provisional = false
