use Rattle.std.proofs.Common.{◌≡◌, nat_abs, Err, sym, ap, ◌∙◌, subst, rules, w64}
use Rattle.std.specs.Int.{FitsUnsignedBits}
use Rattle.std.proofs.lemmas.Int.{to_z-of_z}
use Rattle.terms.specs.declared.refusal.Refusal.TheVariants.{OutOfRange}
use Rattle.days.specs.Days.{Named, day_in}
use Rattle.days.proofs.Naming.{named, in_range, past_range, tried_ok, tried_err}
use Rattle.days.proofs.day.Day.from_number.Goals as goal

pub returns-in_err-number : goal.returns-in_err-number
returns-in_err-number c =
    let z = c.args.number in
    let same = to_z-of_z w64 z c.ranges.number in
    let refused : day_in c.from_residual.result ≡ Err OutOfRange = search rules in
    let value = refused ∙ sym (past_range z (subst (λ y. FitsUnsignedBits 32 y → ⊥) same (tried_err _ _ _ _ _ c.try_from.ensures c.map_err.ensures.variant c.in_err-number.was))) in
    record { value = value; law = subst (Named z) (sym value) (named z) }

pub returns : goal.returns
returns c =
    let z = c.args.number in
    let same = to_z-of_z w64 z c.ranges.number in
    let held = tried_ok _ _ _ _ _ _ c.try_from.ensures c.map_err.ensures.cases c.map_err.ensures.variant c.in_ok-number.was in
    let n : c.in_ok-number.number ≡ nat_abs z = held.1 ∙ ap nat_abs same in
    let value = c.from_date.ensures ∙ sym (in_range z c.in_ok-number.number (subst (FitsUnsignedBits 32) same held.0) n) in
    record { value = value; law = subst (Named z) (sym value) (named z) }
