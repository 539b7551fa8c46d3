use Rattle.std.proofs.Common.{◌≡◌, ℕ, ◌++◌, vec_items, sym, ◌∙◌}
use Rattle.contracts.specs.Views.{table_of}
use Rattle.positions.specs.Net.{placed, net_all}
use Rattle.positions.specs.Netted.{relations, relations_of, years, seasons, quarters}
use Rattle.positions.proofs.Driving.{net_all_same, net_all_append}
use Rattle.positions.proofs.own.OwnPositions.net_all.Goals as goal

pub returns : goal.returns
unfolding relations
returns g c i =
    let t = table_of c.args.table.now in
    let p = placed (vec_items c.args.self.now.positions) in
    let after-years = c.net_tier.ensures.value in
    let after-seasons = c.net_tier-2.ensures.value in
    let two : (k : ℕ) → placed (vec_items c.net_tier-2.new.self.positions) k ≡ net_all (relations_of t seasons) (net_all (relations_of t years) p) k = λ k. after-seasons k ∙ net_all_same (relations_of t seasons) _ (net_all (relations_of t years) p) after-years k in
    c.net_tier-3.ensures.value i
    ∙ net_all_same (relations_of t quarters) _ (net_all (relations_of t seasons) (net_all (relations_of t years) p)) two i
    ∙ sym (net_all_append (relations_of t years) (relations_of t seasons ++ relations_of t quarters) p i ∙ net_all_append (relations_of t seasons) (relations_of t quarters) (net_all (relations_of t years) p) i)
