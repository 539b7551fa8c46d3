use Rattle.std.proofs.Common.{◌≡◌, ◌^◌, ◌<◌, ◌≤◌, length, get_or, set, ℤ, nat_abs, vec_items, ap, ◌∙◌, arith, w64, SFits, rules}
use Rattle.std.proofs.lemmas.Int.{to_z-of_z}
use Rattle.positions.specs.Net.{placed, towards}
use Rattle.positions.proofs.Rows.{taken_more}
use Rattle.positions.proofs.own.OwnPositions.take_off.Goals as goal

pub toward_zero-less-requires : goal.toward_zero-less-requires
toward_zero-less-requires c =
    let xs = vec_items c.loop-o.self.positions in
    let os = c.args.others.now in
    let i = c.loop-o.o-index in
    let o = get_or os i 0 in
    let l : o < length xs = search rules in
    let f : SFits w64 c.at.result = search rules in
    let was = (taken_more c.args.size os i xs (placed (vec_items c.args.self.now.positions)) c.requires.apart c.loop-o-test.true l c.loop-o.invariant.value).0 in
    let size = ap nat_abs (c.at.ensures ∙ was) in
    let same = ap nat_abs c.at.ensures in
    let enough = c.requires.enough i c.loop-o-test.true in
    let small = c.loop-o.self.small o in
    let both : (c.args.size ≤ nat_abs c.at.result) × (nat_abs c.at.result ≤ 2 ^ 62) = (omega arith, omega arith) in
    simp to_z-of_z both

pub loop-o-preserved : goal.loop-o-preserved
loop-o-preserved c =
    let xs = vec_items c.loop-o.self.positions in
    let os = c.args.others.now in
    let i = c.loop-o.o-index in
    let o = get_or os i 0 in
    let l : o < length xs = search rules in
    let f : SFits w64 c.at.result = search rules in
    let r : SFits w64 c.toward_zero-less.result = search rules in
    let next = (taken_more c.args.size os i xs (placed (vec_items c.args.self.now.positions)) c.requires.apart c.loop-o-test.true l c.loop-o.invariant.value).1 in
    let e : c.toward_zero-less.result ≡ towards c.args.size c.at.result = simp to_z-of_z at c.toward_zero-less.ensures in
    record {
      value = λ j. simp to_z-of_z (ap (λ (v : ℤ). placed (set xs o v) j) (e ∙ ap (towards c.args.size) c.at.ensures) ∙ next j);
      long = c.loop-o.invariant.long;
    }
