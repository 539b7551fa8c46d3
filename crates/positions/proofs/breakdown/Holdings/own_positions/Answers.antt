use Rattle.std.proofs.Common.{◌≡◌, ℕ, ◌<◌, ◌≤◌, ◌^◌, length, nat_abs, map, get_or, pos, vec_items, Ok, arith, rules}
use Rattle.std.proofs.lemmas.List.{length-map}
use Rattle.std.proofs.iter.runs.Sources.{ranges}
use Rattle.std.specs.List.{range_with_len}
use Rattle.std.proofs.lemmas.Iterator.{YieldsList-from_range, YieldsList-from_map, items_from_collect}
use Rattle.std.specs.declared.alloc.AllocError.{AllocError}
use Rattle.contracts.specs.Rows.{listed}
use Rattle.contracts.specs.Views.{table_of}
use Rattle.positions.specs.Net.{placed}
use Rattle.positions.specs.Netted.{owned}
use Rattle.positions.proofs.Gathering.{owned_all}
use Rattle.positions.proofs.breakdown.Holdings.own_positions.Goals as goal

pub returns : goal.returns
returns g c =
    let f = owned (table_of c.args.self.now.table.now) (placed c.args.self.now.quantities.now) in
    let all : vec_items c.in_ok-positions.positions ≡ map f (range_with_len 0 c.len.result) = items_from_collect {E = AllocError} (Ok c.in_ok-positions.positions) c.in_ok-positions.ensures.ran (YieldsList-from_map _ f (YieldsList-from_range 0 c.len.result c.len.result (cc) (omega arith)) c.map.ensures.closure (λ x r q k. search rules)) in
    let small : (i : ℕ) → i < length (vec_items c.in_ok-positions.positions) → nat_abs (get_or (vec_items c.in_ok-positions.positions) i (pos 0)) ≤ 2 ^ 38 = search (rules, ranges) in
    let n = length-map (vec_items c.args.self.now.table.now.contracts.rows) listed in
    let m = c.args.self.now.table.now.contracts.rows.ok.0 in
    let l = c.len.ensures in
    owned_all (table_of c.args.self.now.table.now) (placed c.args.self.now.quantities.now) c.len.result _ (omega arith) all small
