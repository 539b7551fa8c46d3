-- How large the numbers of a cell are.
use Rattle.std.proofs.Common.{◌≡◌, ◌≤◌, true, ℤ, ◌+ℤ◌, nat_abs, arith}
use borrow.Author.Differences.{abs_is}
use Rattle.std.proofs.lemmas.Int.{ints}
use Rattle.std.proofs.lemmas.Bool.{and_parts}
use Rattle.terms.specs.Amounts.{amount_size}
use Rattle.terms.specs.Ranges.{holds_in}
use Rattle.terms.specs.declared.bounds.Bounds.TheVariants.{Position, TradedValue}
use Rattle.books.specs.Cells.{opens_within, value_within, trades_within}
use Rattle.books.specs.State.{cell_within}
use Rattle.books.specs.declared.entry.Cell.{Cell}
use Rattle.contracts.specs.declared.kind.Kind.{Kind}

small_position : (z : ℤ) → holds_in Position z ≡ true → nat_abs z ≤ 10000
small_position z h = grind (arith, ints, abs_is z)

small_value : (z : ℤ) → holds_in TradedValue z ≡ true → nat_abs z ≤ 100000000000
small_value z h = grind (arith, ints, abs_is z)

pub record Sizes (x : Cell) : Type 0 where
  pub opening : nat_abs x.opening.quantity ≤ 10000
  pub net : nat_abs (x.opening.quantity +ℤ x.traded.quantity) ≤ 10000
  pub traded : amount_size x.traded ≤ 100000000000

pub cell_sizes : (k : Kind) (x : Cell) → cell_within k x ≡ true → Sizes x
cell_sizes k x h =
    let parts = and_parts (opens_within k x.opening) (trades_within x.opening x.traded) h in
    let o = small_position x.opening.quantity (and_parts (holds_in Position x.opening.quantity) (value_within k x.opening.value) parts.0).0 in
    let t = and_parts (holds_in Position (x.opening.quantity +ℤ x.traded.quantity)) (holds_in TradedValue x.traded.value) parts.1 in
    let n = small_position (x.opening.quantity +ℤ x.traded.quantity) t.0 in
    let v = small_value x.traded.value t.1 in
    let q : nat_abs x.traded.quantity ≤ 20000 = omega (arith, ints, abs_is x.opening.quantity, abs_is x.traded.quantity, abs_is (x.opening.quantity +ℤ x.traded.quantity)) in
    record { opening = o; net = n; traded = omega arith }
