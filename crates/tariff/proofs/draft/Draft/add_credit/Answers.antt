use Rattle.std.proofs.Common.{◌≡◌, is_ok, vec_items, sym, refl, ap, ◌∙◌, arith}
use Rattle.std.proofs.lemmas.Bool.{le-leb, ne_eqb}
use Rattle.contracts.proofs.Keeping.{unrefused}
use Rattle.contracts.specs.Rules.{answer_by}
use Rattle.tariff.specs.Rules.{Kept, credit_refusal, percent_left}
use Rattle.tariff.proofs.Chains.{room_answered, credit_room}
use Rattle.tariff.proofs.Keeping.{kept_more, rows_either}
use Rattle.tariff.proofs.draft.Draft.add_credit.Goals as goal

pub invariant_of-self-clause-credits_kept : goal.invariant_of-self-clause-credits_kept
invariant_of-self-clause-credits_kept g c =
    let cs = vec_items c.args.self.now.credits.rows in
    let x = c.args.credit in
    let kept = c.args.self.now.credits_kept in
    let left = c.percent_left.ensures in
    let room = credit_room cs x (sym c.if-not-holds.ensures) (le-leb x.percent (percent_left cs) (omega arith)) (ne_eqb x.first x.second c.if-credit.false) (sym c.is_paired.ensures ∙ c.if-is_paired.false) in
    let answer : c.push.result ≡ answer_by (credit_refusal cs x) = room_answered _ 64 _ _ c.push.result refl room c.push.ensures.answer in
    rows_either (Kept credit_refusal) cs _ x c.push.result c.push.ensures.rows kept (λ ok. kept_more credit_refusal cs x kept (unrefused _ (sym (ap is_ok answer) ∙ ok)))
