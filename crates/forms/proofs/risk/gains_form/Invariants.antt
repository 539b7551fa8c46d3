use Rattle.forms.proofs.Gained.{ReadTo}
use Rattle.forms.proofs.risk.gains_form.Given as goal

abbrev pub invariant-loop-i : goal.invariant-loop-i
invariant-loop-i l = ReadTo l.fields l.i l.each
