use Rattle.std.proofs.Common.{◌^◌, ◌≤◌, nat_abs, vec_items, ap, arith, w64, SFits, rules}
use Rattle.std.proofs.lemmas.Int.{to_z-of_z}
use Rattle.positions.specs.Net.{placed}
use Rattle.positions.proofs.Rows.{smallest_at, smallest_le}
use Rattle.positions.proofs.own.OwnPositions.net_once.Goals as goal

pub take_off-requires-clause-enough : goal.take_off-requires-clause-enough
take_off-requires-clause-enough c j h =
    let e = c.smallest_size-size.ensures in
    let s = smallest_at (placed (vec_items c.args.self.now.positions)) c.args.first c.args.others.now j h in
    omega arith

pub toward_zero-requires : goal.toward_zero-requires
toward_zero-requires c =
    let p = placed (vec_items c.args.self.now.positions) in
    let f : SFits w64 c.at-a.result = search rules in
    let e = c.smallest_size-size.ensures in
    let s = smallest_le p c.args.first c.args.others.now in
    let b = c.args.self.now.small c.args.first in
    let a = ap nat_abs c.at-a.ensures in
    let both : (c.smallest_size-size.result ≤ nat_abs c.at-a.result) × (nat_abs c.at-a.result ≤ 2 ^ 62) = (omega arith, omega arith) in
    simp to_z-of_z both
