use Rattle.std.proofs.Common.{map, string_bytes, sym, ap, ◌∙◌}
use Rattle.text.specs.Fields.{see}
use Rattle.hours.proofs.Linewise.{one_more, last_some, last_none}
use Rattle.hours.proofs.report.report_on.Goals as goal
use Rattle.hours.proofs.report.report_on.Goals.{then-not-is_empty+in_ok-add_line-2, else-not-is_empty}

pub loop-line-preserved : goal.loop-line-preserved
loop-line-preserved c =
    one_more c.args.input.now _ c.loop-line.rest.now c.in-Some.line.now c.in-Some.after.now _ _ _
    c.loop-line.invariant
    c.in-Some.ensures.law
    c.in_ok-add_line.ensures
    c.answer_to.ensures
    (ap (map see) c.deref.ensures.value ∙ c.in_ok-split_into.ensures.value)

pub returns-clause-value : goal.returns-clause-value
returns-clause-value c = elim c.if-not-is_empty.branch [
  | then-not-is_empty+in_ok-add_line-2 w ↦ last_some c.args.input.now _ c.loop-line.rest.now _ c.loop-line.invariant c.in_default.ensures.law (sym c.is_empty.ensures ∙ w.if-not-is_empty.true) (ap string_bytes w.text-is ∙ w.in_ok-add_line-2.ensures)
  | else-not-is_empty w ↦ last_none c.args.input.now _ c.loop-line.rest.now _ c.loop-line.invariant (sym c.is_empty.ensures ∙ w.if-not-is_empty.false) (ap string_bytes w.text-is)
]
