use Rattle.std.proofs.Common.{map, vec_items, sym, refl, subst}
use Rattle.contracts.specs.Rows.{said_in}
use Rattle.contracts.specs.Views.{table_of, plus_contract}
use Rattle.tariff.specs.Rows.{rated}
use Rattle.tariff.specs.Rules.{prices_refusal}
use Rattle.tariff.specs.Views.{said_of, plus_prices}
use Rattle.tariff.proofs.Drafts.{keeps}
use Rattle.tariff.proofs.Keeping.{BothKeep, keep_either, keeps_prices, with_prices}
use Rattle.tariff.proofs.draft.Draft.add_contract.Goals as goal

pub invariant_of-self : goal.invariant_of-self
invariant_of-self g c =
    let s = c.args.self.now in
    let t = table_of s.contracts in
    let x = said_in c.args.terms in
    let p = c.args.prices in
    let r = c.add_with_prices.ensures in
    let after = with_prices t (table_of c.add_with_prices.new.contracts) (said_of s) (λ d. map (rated d) (vec_items s.risks.rows)) refl x p (vec_items c.add_with_prices.new.rows.rows) c.add_with_prices.result r.table r.rows in
    let k = subst BothKeep (sym after) (keep_either c.add_with_prices.result (prices_refusal t x p) (plus_contract t x, plus_prices (said_of s) p) (t, said_of s) r.answer (keeps s) (keeps_prices t (said_of s) x p (keeps s))) in
    record { spots_each = k.spots_each; spots_within = k.spots_hold; prices_each = k.prices_each; prices_within = k.all_prices_hold; risks_kept = k.risks_kept; ranges_kept = k.ranges_kept; credits_kept = k.credits_kept }
