use Rattle.std.proofs.Common.{◌≡◌, min, nat_abs, fold, vec_items, ◌∙◌, rules}
use Rattle.positions.specs.Net.{placed}
use Rattle.positions.proofs.Rows.{fold-smallest}
use Rattle.positions.proofs.own.OwnPositions.smallest_size.Goals as goal

pub returns : goal.returns
returns c =
    let p = placed (vec_items c.args.self.now.positions) in
    let folded : c.fold.result ≡ fold (λ k o. min k (nat_abs (p o))) (nat_abs (p c.args.first)) c.args.others.now = search rules in
    folded ∙ fold-smallest p c.args.first c.args.others.now
