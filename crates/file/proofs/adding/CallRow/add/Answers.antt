use Rattle.std.proofs.Common.{List, vec_items, refl, ap}
use Rattle.books.specs.declared.entry.Call.{Call}
use Rattle.file.specs.Meaning.{view_of}
use Rattle.file.specs.Says.{call_refusal, call_by}
use Rattle.file.specs.View.{with_calls}
use Rattle.file.proofs.Rows.{added, taken}
use Rattle.file.proofs.adding.CallRow.add.Goals as goal

pub returns-clause-added : goal.returns-clause-added
returns-clause-added c =
    let s = c.args.reading.now in
    let v = view_of s in
    let call = c.in_ok-call_form.field-0 in
    added _ call (call_by v) (call_refusal (vec_items s.calls.rows) call) _ _ _ c.in_ok-call_form.ensures refl c.add.ensures.answer
    (λ ok. ap (λ (cs : List Call). with_calls v cs) (taken _ _ _ _ c.add.ensures.rows ok))
