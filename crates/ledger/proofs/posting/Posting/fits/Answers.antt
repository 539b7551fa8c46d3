use Rattle.std.proofs.Common.{◌≡◌, ◌+◌, ◌^◌, ◌≤◌, Bool, true, false, ◌&&◌, ◌+ℤ◌, sym, ap, ◌∙◌, subst, arith, w64, SFits, rules}
use borrow.Author.Differences.{abs_is}
use Rattle.std.proofs.lemmas.Int.{ints, to_z-of_z}
use Rattle.terms.specs.Amounts.{amount_size}
use Rattle.terms.specs.Groups.{amount_laws}
use Rattle.terms.specs.Ranges.{holds_in}
use Rattle.terms.specs.declared.amounts.Amount.{Amount}
use Rattle.terms.specs.declared.bounds.Bounds.TheVariants.{Position, TradedValue}
use Rattle.books.specs.Cells.{trades_within}
use Rattle.ledger.proofs.posting.Posting.fits.Goals as goal

pub returns-then-holds : goal.returns-then-holds
returns-then-holds c =
    let o = c.args.cell.opening.quantity in
    let x = c.sum-traded.result in
    let small : amount_size x ≤ 2 ^ 62 + 2 ^ 60 = subst (λ (y : Amount). amount_size y ≤ 2 ^ 62 + 2 ^ 60) (sym c.sum-traded.ensures) (omega (arith, amount_laws.plus_size c.args.cell.traded c.args.self.amount)) in
    let fo : SFits w64 o = search rules in
    let fx : SFits w64 x.quantity = search rules in
    let fv : SFits w64 x.value = search rules in
    let fs : SFits w64 (o +ℤ x.quantity) = omega (arith, ints, small, abs_is o, abs_is x.quantity) in
    let one : true ≡ holds_in Position (o +ℤ x.quantity) = simp to_z-of_z at c.if-holds.ensures in
    let two : c.holds-then-holds.result ≡ holds_in TradedValue x.value = simp to_z-of_z at c.holds-then-holds.ensures in
    two ∙ ap (λ (b : Bool). b && holds_in TradedValue x.value) one ∙ ap (trades_within c.args.cell.opening) c.sum-traded.ensures

pub returns-else-holds : goal.returns-else-holds
returns-else-holds c =
    let o = c.args.cell.opening.quantity in
    let x = c.sum-traded.result in
    let small : amount_size x ≤ 2 ^ 62 + 2 ^ 60 = subst (λ (y : Amount). amount_size y ≤ 2 ^ 62 + 2 ^ 60) (sym c.sum-traded.ensures) (omega (arith, amount_laws.plus_size c.args.cell.traded c.args.self.amount)) in
    let fo : SFits w64 o = search rules in
    let fx : SFits w64 x.quantity = search rules in
    let fs : SFits w64 (o +ℤ x.quantity) = omega (arith, ints, small, abs_is o, abs_is x.quantity) in
    let one : false ≡ holds_in Position (o +ℤ x.quantity) = simp to_z-of_z at c.if-holds.ensures in
    c.if-holds.false ∙ ap (λ (b : Bool). b && holds_in TradedValue x.value) one ∙ ap (trades_within c.args.cell.opening) c.sum-traded.ensures
