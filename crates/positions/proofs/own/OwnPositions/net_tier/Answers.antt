use Rattle.std.proofs.Common.{◌<◌, vec_items, vec_len, ap, ◌∙◌, arith}
use Rattle.std.proofs.lemmas.List.{length-map}
use Rattle.contracts.specs.Rows.{listed}
use Rattle.contracts.specs.Table.{size}
use Rattle.contracts.specs.Views.{table_of}
use Rattle.contracts.proofs.Searches.{row_at}
use Rattle.positions.specs.Net.{placed, net_all}
use Rattle.positions.specs.Netted.{relations_of}
use Rattle.positions.specs.Tiers.{tier_of}
use Rattle.positions.specs.declared.own.OwnPositions.{OwnPositions}
use Rattle.positions.proofs.Driving.{one_place, place_netted, place_left}
use Rattle.positions.proofs.Members.{parts_at, not_netted, members}
use Rattle.positions.proofs.own.OwnPositions.net_tier.Goals as goal
use Rattle.positions.proofs.own.OwnPositions.net_tier.Goals.{in-Some, in_default}

pub net_once-requires : goal.net_once-requires
net_once-requires g c =
    let s = c.args.table.now in
    let i = c.loop-place.place in
    let row = row_at c.deref-contract-items.result.now (vec_items s.contracts.rows) i c.contract-item.result c.deref-contract-items.ensures.value c.loop-place-test.true c.contract-item.is in
    let here = parts_at (table_of s) (tier_of c.args.tier) i (listed c.contract-item.result) c.deref.result.now row c.in-Some.ensures.0 (c.deref.ensures.0 ∙ c.in-Some.ensures.1) in
    let n = length-map (vec_items s.contracts.rows) listed in
    let a = c.deref-contract-items.ensures.len in
    let long = c.loop-place.invariant.long in
    let within : i < vec_len c.loop-place.self.positions = omega arith in
    let m = members s c.args.tier i (vec_len c.loop-place.self.positions) c.deref.result.now (omega arith) within here in
    record { within = within; below = m.below; apart = m.apart }

pub loop-place-preserved : goal.loop-place-preserved
loop-place-preserved g c =
    let s = c.args.table.now in
    let t = table_of s in
    let x = tier_of c.args.tier in
    let i = c.loop-place.place in
    let row = row_at c.deref-contract-items.result.now (vec_items s.contracts.rows) i c.contract-item.result c.deref-contract-items.ensures.value c.loop-place-test.true c.contract-item.is in
    let n = length-map (vec_items s.contracts.rows) listed in
    let a = c.deref-contract-items.ensures.len in
    let before = placed (vec_items c.loop-place.self.positions) in
    let whole = net_all (relations_of t x) (placed (vec_items c.args.self.now.positions)) in
    elim c.match-parts_of.branch [
      | in-Some w ↦ (
          let here = parts_at t x i (listed c.contract-item.result) w.deref.result.now row w.in-Some.ensures.0 (w.deref.ensures.0 ∙ w.in-Some.ensures.1) in
          record {
            long = ap (λ (o : OwnPositions). vec_len o.positions) w.self-is ∙ w.net_once.ensures.long ∙ c.loop-place.invariant.long;
            value = one_place t x (size t) i before _ whole (omega arith) (λ k. ap (λ (o : OwnPositions). placed (vec_items o.positions) k) w.self-is ∙ place_netted t x i w.deref.result.now before _ here.listed here.others w.net_once.ensures.value k) c.loop-place.invariant.value;
          })
      | in_default w ↦ (
          let none = not_netted t x i (listed c.contract-item.result) c.parts_of.result row c.parts_of.ensures w.in_default.not-Some in
          record {
            long = ap (λ (o : OwnPositions). vec_len o.positions) w.self-is ∙ c.loop-place.invariant.long;
            value = one_place t x (size t) i before _ whole (omega arith) (place_left t x i before _ none (λ k. ap (λ (o : OwnPositions). placed (vec_items o.positions) k) w.self-is)) c.loop-place.invariant.value;
          })
    ]
