use Rattle.forms.proofs.Paired.{PairedTo}
use Rattle.forms.proofs.range.steps_form.Given as goal

abbrev pub invariant-loop-i : goal.invariant-loop-i
invariant-loop-i l = PairedTo l.fields l.i l.each
