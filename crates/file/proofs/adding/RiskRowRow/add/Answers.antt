use Rattle.std.proofs.Common.{refl}
use Rattle.tariff.specs.Rules.{risk_refusal}
use Rattle.tariff.specs.Views.{table_in, said_of}
use Rattle.file.specs.Meaning.{view_of}
use Rattle.file.specs.Says.{risk_by}
use Rattle.file.proofs.Rows.{added, taken, same_contracts}
use Rattle.file.proofs.adding.RiskRowRow.add.Goals as goal

pub returns-clause-added : goal.returns-clause-added
returns-clause-added c =
    let s = c.args.reading.now in
    let v = view_of s in
    let row = c.in_ok-name.field-0 in
    added _ row (risk_by v) (risk_refusal (table_in s.draft) (said_of s.draft).risks row.name row.risk) _ _ _ c.in_ok-name.ensures refl c.add_risk.ensures.answer
    (λ ok. same_contracts v _ _ _ _ c.add_risk.ensures.contracts (taken _ _ _ _ c.add_risk.ensures.said ok))
