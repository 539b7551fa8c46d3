use Rattle.std.proofs.Common.{length, take, Some, vec_items, sym, ap, ◌∙◌}
use Rattle.books.proofs.Rows.{listings, position_read}
use Rattle.limits.proofs.Places.{layer_ext, set_at, set_none}
use Rattle.limits.proofs.layer.ConcentrationLimit.set_limit.Goals as goal

pub returns-in-Some-clause-layer : goal.returns-in-Some-clause-layer
returns-in-Some-clause-layer g c =
    let k = c.args.limit.contract in
    let xs = (g.B.Holdings.holding c.args.self.now.below.now).listings in
    let found = position_read listings k _ xs _ c.place_of.ensures c.listings.ensures in
    let ls = vec_items c.args.self.now.table.limits in
    layer_ext g.S.Summing.scope _ _ (ap (take (length xs)) c.set.ensures ∙ set_at k xs ls c.in-Some.place (Some c.args.limit.most) (sym c.in-Some.is ∙ found))

pub returns-in_default-clause-layer : goal.returns-in_default-clause-layer
returns-in_default-clause-layer g c =
    let k = c.args.limit.contract in
    let xs = (g.B.Holdings.holding c.args.self.now.below.now).listings in
    let found = position_read listings k _ xs _ c.place_of.ensures c.listings.ensures in
    layer_ext g.S.Summing.scope _ _ (set_none k xs (vec_items c.args.self.now.table.limits) (Some c.args.limit.most) (sym c.in_default.is ∙ found))
