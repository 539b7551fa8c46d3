use Rattle.std.proofs.Common.{◌≡◌, ◌/◌, length, inl, inr, arith}
use Rattle.std.proofs.lemmas.Result.{err_from_is_err_and}
use Rattle.forms.proofs.Paired.{wrong_count, pair_more, pair_stops, pairs_all}
use Rattle.forms.proofs.range.steps_form.Goals as goal

pub returns-then-fields-eq1 : goal.returns-then-fields-eq1
returns-then-fields-eq1 c = wrong_count c.args.fields.now (λ n few e. elim c.then-fields-eq1.either [ inl odd ↦ omega arith | inr many ↦ omega arith ])

pub returns-in_err-each : goal.returns-in_err-each
returns-in_err-each c =
    let p = err_from_is_err_and c.from_residual.result c.from_residual.ensures.1 in
    rw (p.1, p.2) (pair_stops c.loop-i.invariant _ (omega arith) _ c.in_err-each.ensures)

pub loop-i-preserved : goal.loop-i-preserved
loop-i-preserved c = pair_more c.loop-i.invariant _ (omega arith) _ (omega arith) c.in_ok-each.ensures

pub returns : goal.returns
returns c =
    let at : length c.args.fields.now / 2 ≡ c.loop-i.i = omega arith in
    rw at (pairs_all c.loop-i.invariant (omega arith) (omega arith))
