use Rattle.std.proofs.Common.{vec_items, sym, ◌∙◌}
use Rattle.books.proofs.Rows.{listings, found_none, position_read}
use Rattle.limits.proofs.Places.{limit_none, limit_at}
use Rattle.limits.proofs.layer.ConcentrationLimit.limit_of.Goals as goal

pub returns-in_err-place_of : goal.returns-in_err-place_of
returns-in_err-place_of g c =
    let k = c.args.contract in
    let xs = (g.B.Holdings.holding c.args.self.now.below.now).listings in
    let found = position_read listings k _ xs _ c.place_of.ensures c.listings.ensures in
    c.from_residual.ensures ∙ sym (limit_none k xs (vec_items c.args.self.now.table.limits) (found_none listings k xs (sym (c.in_err-place_of.was) ∙ found)))

pub returns : goal.returns
returns g c =
    let k = c.args.contract in
    let xs = (g.B.Holdings.holding c.args.self.now.below.now).listings in
    let found = position_read listings k _ xs _ c.place_of.ensures c.listings.ensures in
    c.at.ensures ∙ sym (limit_at k xs (vec_items c.args.self.now.table.limits) c.in_ok-place_of.field-0 (sym (c.in_ok-place_of.was) ∙ found))
