use Rattle.std.proofs.Common.{◌≡◌, map, vec_items, ap, ◌∙◌}
use Rattle.std.proofs.lemmas.Result.{IfOk-weaker}
use Rattle.contracts.specs.Lines.{lines}
use Rattle.contracts.specs.Seen.{seen}
use Rattle.contracts.specs.Views.{table_of}
use Rattle.positions.specs.Net.{placed}
use Rattle.positions.specs.Netted.{position}
use Rattle.positions.specs.Results.{netted_by, PositionsAre}
use Rattle.positions.proofs.Gathering.{made_both, netted_all}
use Rattle.positions.proofs.Kept.{hours_kept}
use Rattle.positions.proofs.positions.positions_of.Goals as goal

pub returns : goal.returns
returns g c =
    let s = c.args.table.now in
    let t = table_of s in
    let q = placed c.args.quantities.now in
    let all : map (seen s.date.number) c.deref.result.now ≡ lines t = ap (map (seen s.date.number)) c.deref.ensures.value ∙ c.in_ok-lines.ensures in
    let own = c.net_all.new.self.positions in
    let after : map (netted_by t q (vec_items own)) (lines t) ≡ _ = netted_all s q _ (vec_items own) c.in_ok-own.ensures c.net_all.ensures in
    let value = made_both c.line_positions.result _ _ (λ p. PositionsAre t q (vec_items p.before) (vec_items p.netted)) c.line_positions.ensures.before c.line_positions.ensures.netted (λ p b n. record {
      broken_down = b ∙ ap (map (position t q)) all;
      netted_down = n ∙ ap (map (netted_by t q (vec_items own))) all ∙ after;
    }) in
    record { value = value; law = IfOk-weaker c.line_positions.result _ _ (λ p e. hours_kept s _ q _ _ e) value }
