use Rattle.std.proofs.Common.{refl}
use Rattle.tariff.specs.Rows.{ranged}
use Rattle.tariff.specs.Rules.{range_refusal}
use Rattle.tariff.specs.Views.{said_of}
use Rattle.file.specs.Meaning.{view_of}
use Rattle.file.specs.Says.{range_by}
use Rattle.file.proofs.Rows.{added, taken, same_contracts}
use Rattle.file.proofs.adding.GroupRangeRow.add.Goals as goal

pub returns-clause-added : goal.returns-clause-added
returns-clause-added c =
    let s = c.args.reading.now in
    let v = view_of s in
    let row = ranged c.in_ok-range_form.field-0 in
    added _ row (range_by v) (range_refusal (said_of s.draft).ranges row) _ _ _ c.in_ok-range_form.ensures refl c.add_range.ensures.answer
    (λ ok. same_contracts v _ _ _ _ c.add_range.ensures.contracts (taken _ _ _ _ c.add_range.ensures.said ok))
