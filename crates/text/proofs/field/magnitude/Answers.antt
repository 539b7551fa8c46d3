use Rattle.std.proofs.Common.{sym, ◌∙◌, arith}
use Rattle.text.proofs.Numbers.{digit_more}
use Rattle.text.proofs.field.magnitude.Goals as goal

pub loop-d-preserved : goal.loop-d-preserved
loop-d-preserved c =
    (omega arith, digit_more c.args.ds.now _ _ _ c.loop-d-test.true (sym c.if-not-is_ascii_digit.ensures.value) (omega arith) ∙ c.loop-d.invariant.1)
