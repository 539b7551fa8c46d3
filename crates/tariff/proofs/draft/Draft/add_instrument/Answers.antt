use Rattle.std.proofs.Common.{map, vec_items, sym, refl, subst, w32, to_z, of_z}
use Rattle.contracts.specs.Rows.{instr}
use Rattle.contracts.specs.Views.{table_of, plus_instrument}
use Rattle.tariff.specs.Rows.{rated}
use Rattle.tariff.specs.Rules.{spot_refusal}
use Rattle.tariff.specs.Views.{said_of, plus_spot}
use Rattle.tariff.proofs.Drafts.{keeps}
use Rattle.tariff.proofs.Keeping.{BothKeep, keep_either, keeps_spot, with_spot}
use Rattle.tariff.proofs.draft.Draft.add_instrument.Goals as goal

pub invariant_of-self : goal.invariant_of-self
invariant_of-self g c =
    let s = c.args.self.now in
    let t = table_of s.contracts in
    let i = instr c.args.instrument in
    let x = to_z w32 (of_z w32 c.args.spot) in
    let r = c.add_with_spot.ensures in
    let after = with_spot t (table_of c.add_with_spot.new.contracts) (said_of s) (λ d. map (rated d) (vec_items s.risks.rows)) refl i x (vec_items c.add_with_spot.new.spots.rows) c.add_with_spot.result r.table r.spots in
    let k = subst BothKeep (sym after) (keep_either c.add_with_spot.result (spot_refusal t i.number x) (plus_instrument t i, plus_spot (said_of s) x) (t, said_of s) r.answer (keeps s) (keeps_spot t (said_of s) i x (keeps s))) in
    record { spots_each = k.spots_each; spots_within = k.spots_hold; prices_each = k.prices_each; prices_within = k.all_prices_hold; risks_kept = k.risks_kept; ranges_kept = k.ranges_kept; credits_kept = k.credits_kept }
