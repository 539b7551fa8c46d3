use Rattle.std.proofs.Common.{◌≡◌, is_some, is_ok, false, vec_items, sym, ap, subst, ◌∙◌}
use Rattle.std.proofs.lemmas.List.{length-map}
use Rattle.contracts.proofs.Keeping.{unrefused}
use Rattle.contracts.specs.Lines.{Line}
use Rattle.contracts.specs.Rules.{answer_by}
use Rattle.contracts.specs.Views.{table_of}
use Rattle.tariff.specs.Rows.{rated}
use Rattle.tariff.specs.Rules.{rated_refusal, risk_refusal}
use Rattle.tariff.specs.Views.{said_of}
use Rattle.tariff.proofs.Chains.{room_answered, rated_passes}
use Rattle.tariff.proofs.Keeping.{seen_more}
use Rattle.tariff.proofs.draft.Draft.add_risk.Goals as goal

pub invariant_of-self-clause-risks_kept : goal.invariant_of-self-clause-risks_kept
invariant_of-self-clause-risks_kept g c =
    let s = c.args.self.now in
    let t = table_of s.contracts in
    let items = vec_items s.risks.rows in
    let rs = (said_of s).risks in
    let name = c.args.name in
    let risk = c.args.risk in
    let answer : c.push.result ≡ answer_by (risk_refusal t rs name risk) = room_answered _ 256 _ _ c.push.result (length-map items (rated t.date)) c.in_ok-line.ensures.room c.push.ensures.answer in
    seen_more (rated t.date) (rated_refusal t) items _ (record { line = c.in_ok-line.line; risk = risk }) c.push.result c.push.ensures.rows
    (λ ok. subst (λ (l : Line). is_some (rated_refusal t rs (record { line = l; risk = risk })) ≡ false) (sym c.in_ok-line.ensures.line) (rated_passes t rs name risk (unrefused _ (sym (ap is_ok answer) ∙ ok))))
    s.risks_kept
