use Rattle.std.proofs.Common.{◌≡◌, ℕ, ◌+◌, ◌*◌, ◌^◌, ◌<◌, ◌≤◌, get_or, ℤ, ◌+ℤ◌, nat_abs, vec_items, refl, sym, ap, ◌∙◌, subst, arith, w64, SFits, to_z, of_z, rules}
use borrow.Author.Differences.{abs_is}
use Rattle.std.proofs.lemmas.Int.{ints, to_z-of_z}
use Rattle.books.specs.declared.entry.Cell.{Cell}
use Rattle.ledger.specs.Views.{net_of, nobody}
use Rattle.ledger.specs.declared.tables.Tables.{Tables}
use Rattle.ledger.proofs.AtPlace.{Spot, spot, read, sizes_in}
use Rattle.ledger.proofs.tables.Tables.net_at.Goals as goal

-- the two quantities of a cell
net : (t : Tables) (row d i : ℕ) (x : Cell) → Spot t row d i → x ≡ get_or (vec_items t.cells) i x → (x.opening.quantity +ℤ x.traded.quantity ≡ net_of t (get_or (vec_items t.accounts) row nobody).number d) × (nat_abs (x.opening.quantity +ℤ x.traded.quantity) ≤ 10000)
net t row d i x s r =
    let a = (get_or (vec_items t.accounts) row nobody).number in
    let cell = read t a d i s.place s.low x r in
    let e : x.opening.quantity +ℤ x.traded.quantity ≡ net_of t a d = ap (λ (z : Cell). z.opening.quantity +ℤ z.traded.quantity) cell in
    (e, subst (λ (z : ℤ). nat_abs z ≤ 10000) (sym e) (sizes_in t a d s.listed).net)

at : (c : goal.After-len) → Spot c.args.self.now c.args.row c.args.contract (c.args.row * c.len.result + c.args.column)
at c = spot c.args.self.now c.args.row c.args.column c.args.contract c.len.result c.requires.row c.requires.listed c.requires.column c.len.ensures

pub overflow_add-row : goal.overflow_add-row
overflow_add-row c =
    let low : c.args.row * c.len.result + c.args.column < 2 ^ 64 = omega (arith, (at c).low, c.args.self.now.narrow) in
    search rules

pub index-cell-requires : goal.index-cell-requires
index-cell-requires c =
    let s = spot c.args.self.now c.args.row c.args.column c.args.contract c.len.result c.requires.row c.requires.listed c.requires.column c.len.ensures in
    omega (arith, s.low, c.args.self.now.sized)

pub overflow_add-result : goal.overflow_add-result
overflow_add-result c =
    let s = spot c.args.self.now c.args.row c.args.column c.args.contract c.len.result c.requires.row c.requires.listed c.requires.column c.len.ensures in
    let x = c.index-cell.result.now in
    let n = net c.args.self.now c.args.row c.args.contract _ x s c.index-cell.ensures in
    let fx : SFits w64 x.opening.quantity = search rules in
    let fy : SFits w64 x.traded.quantity = search rules in
    let fs : SFits w64 (x.opening.quantity +ℤ x.traded.quantity) = omega (arith, ints, n.1, abs_is (x.opening.quantity +ℤ x.traded.quantity)) in
    simp to_z-of_z fs

pub returns : goal.returns
returns c =
    let s = spot c.args.self.now c.args.row c.args.column c.args.contract c.len.result c.requires.row c.requires.listed c.requires.column c.len.ensures in
    let x = c.index-cell.result.now in
    let n = net c.args.self.now c.args.row c.args.contract _ x s c.index-cell.ensures in
    let fx : SFits w64 x.opening.quantity = search rules in
    let fy : SFits w64 x.traded.quantity = search rules in
    let fs : SFits w64 (x.opening.quantity +ℤ x.traded.quantity) = omega (arith, ints, n.1, abs_is (x.opening.quantity +ℤ x.traded.quantity)) in
    let same : to_z w64 (of_z w64 (to_z w64 (of_z w64 x.opening.quantity) +ℤ to_z w64 (of_z w64 x.traded.quantity))) ≡ x.opening.quantity +ℤ x.traded.quantity = simp to_z-of_z refl in
    record {
      value = same ∙ n.0;
      bound = subst (λ (m : ℤ). nat_abs m ≤ 10000) (sym same) n.1;
    }
