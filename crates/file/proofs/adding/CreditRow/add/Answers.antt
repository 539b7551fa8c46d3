use Rattle.std.proofs.Common.{refl}
use Rattle.tariff.specs.Rules.{credit_refusal}
use Rattle.tariff.specs.Views.{said_of}
use Rattle.file.specs.Meaning.{view_of}
use Rattle.file.specs.Says.{credit_by}
use Rattle.file.proofs.Rows.{added, taken, same_contracts}
use Rattle.file.proofs.adding.CreditRow.add.Goals as goal

pub returns-clause-added : goal.returns-clause-added
returns-clause-added c =
    let s = c.args.reading.now in
    let v = view_of s in
    let row = c.in_ok-credit_form.field-0 in
    added _ row (credit_by v) (credit_refusal (said_of s.draft).credits row) _ _ _ c.in_ok-credit_form.ensures refl c.add_credit.ensures.answer
    (λ ok. same_contracts v _ _ _ _ c.add_credit.ensures.contracts (taken _ _ _ _ c.add_credit.ensures.said ok))
