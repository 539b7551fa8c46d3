use Rattle.std.proofs.Common.{List, map, IfOk, vec_items, sym, ap, ◌∙◌, subst, rules, ◌≡◌}
use Rattle.std.proofs.lemmas.Iterator.{YieldsList-from_slice, YieldsList-from_map, items_from_collect}
use Rattle.std.proofs.lemmas.Simd.{map-map}
use Rattle.contracts.specs.Rows.{listed}
use Rattle.contracts.specs.Views.{table_of}
use Rattle.books.specs.declared.entry.Listing.{Listing}
use Rattle.opening.specs.Views.{listing_of}
use Rattle.opening.proofs.starting.listings_of.Goals as goal

pub returns : goal.returns
returns g c =
    let t = table_of c.args.table.now in
    let row = listing_of t.instruments in
    subst (λ (ls : List Listing). IfOk c.collect.result (λ v. vec_items v ≡ ls))
    (ap (map (λ x. row (listed x))) c.deref.ensures.value ∙ sym (map-map row listed (vec_items c.args.table.now.contracts.rows)))
    (items_from_collect c.collect.result c.collect.ensures.ran (YieldsList-from_map _ (λ x. row (listed x)) (YieldsList-from_slice c.deref.result.now (cc)) c.map.ensures.closure (λ x r q k. search rules)))
