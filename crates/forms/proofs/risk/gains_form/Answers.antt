use Rattle.std.proofs.Common.{arith, w64, SFits, rules}
use Rattle.std.proofs.lemmas.Result.{err_from_is_err_and}
use Rattle.std.proofs.lemmas.Int.{to_z-of_z}
use Rattle.forms.proofs.Gained.{too_many, read_more, read_stops, last_gain_is_zero, ends_in_other, no_gains}
use Rattle.forms.proofs.risk.gains_form.Goals as goal
use Rattle.forms.proofs.risk.gains_form.Goals.{else-count-gt0-via-then-count-gt0+else-each-count-eq0, else-count-gt0-via-else-count-gt0}

pub returns-then-count-gt16 : goal.returns-then-count-gt16
returns-then-count-gt16 c = too_many c.args.fields.now c.if-count-gt16.true

pub returns-in_err-each : goal.returns-in_err-each
returns-in_err-each c =
    let p = err_from_is_err_and c.from_residual.result c.from_residual.ensures.1 in
    rw (p.1, p.2) (read_stops c.loop-i.invariant _ _ c.loop-i-test.true c.in_err-each.ensures)

pub loop-i-preserved : goal.loop-i-preserved
loop-i-preserved c =
    let fits : SFits w64 c.in_ok-each.field-0 = search rules in
    simp to_z-of_z (read_more c.loop-i.invariant _ _ c.loop-i-test.true (omega arith) c.in_ok-each.ensures)

pub returns-then-each-count-eq0 : goal.returns-then-each-count-eq0
returns-then-each-count-eq0 c = last_gain_is_zero c.loop-i.invariant c.loop-i-test.false c.loop-i.auto.i-end c.if-count-gt16.false c.if-count-gt0.true (search rules) c.if-each-count-eq0.true

pub returns : goal.returns
returns c = elim c.else-count-gt0.branch [
  | else-count-gt0-via-then-count-gt0+else-each-count-eq0 w ↦ ends_in_other c.loop-i.invariant c.loop-i-test.false c.loop-i.auto.i-end c.if-count-gt16.false w.if-count-gt0.true w.if-each-count-eq0.false
  | else-count-gt0-via-else-count-gt0 w ↦ no_gains c.loop-i.invariant c.loop-i-test.false c.loop-i.auto.i-end c.if-count-gt16.false w.if-count-gt0.false
]
