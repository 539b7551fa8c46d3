use Rattle.std.proofs.Common.{◌≡◌, ℕ, true, List, Some, set, vec_items, Option, sym, refl, ap, ◌∙◌, subst, arith}
use Rattle.terms.specs.declared.amounts.Amount.{Amount}
use Rattle.books.specs.declared.entry.Cell.{Cell}
use Rattle.ledger.specs.Places.{trades, goes, Shifted}
use Rattle.ledger.specs.Views.{bears_at, bears_by, posted}
use Rattle.ledger.proofs.AtPlace.{found_at, place_low}
use Rattle.ledger.proofs.Shifting.{one_more}
use Rattle.ledger.proofs.Writes.{trades_low, posted_within, posted_openings, posted_trades}
use Rattle.ledger.proofs.tables.Tables.post.Goals as goal

pub sum-requires : goal.sum-requires
sum-requires c =
    let at = found_at c.args.self.now c.in-Some.account c.args.posting.contract c.in-Some-place.at c.index.result.now c.in-Some-place.ensures.value c.in-Some-place.ensures.bound c.index.ensures in
    omega (arith, at.sizes.traded, c.args.posting.small)

pub invariant_of-self : goal.invariant_of-self
invariant_of-self c =
    let t = c.args.self.now in
    let a = c.in-Some.account in
    let k = c.args.posting.contract in
    let by = c.args.posting.amount in
    let i = c.in-Some-place.at in
    let x = c.index.result.now in
    let at = found_at t a k i x c.in-Some-place.ensures.value c.in-Some-place.ensures.bound c.index.ensures in
    let too = found_at t a k i c.index_mut.result.now c.in-Some-place.ensures.value c.in-Some-place.ensures.bound c.index_mut.ensures.value in
    let bears : bears_at t a k by ≡ true = sym (ap (λ (o : Option ℕ). bears_by t o k by) c.in-Some.is) ∙ c.requires in
    let same = ap (λ (z : Cell). z.opening) (too.cell ∙ sym at.cell) in
    record { few = t.few; narrow = t.narrow; sized = t.sized; apart = t.apart; within = posted_within t a k i x _ by at same c.sum.ensures bears }

pub returns-in-Some-place : goal.returns-in-Some-place
returns-in-Some-place c =
    let t = c.args.self.now in
    let xs = vec_items t.accounts in
    let cs = vec_items t.listings in
    let ts = trades (vec_items t.cells) in
    let a = c.in-Some.account in
    let k = c.args.posting.contract in
    let by = c.args.posting.amount in
    let i = c.in-Some-place.at in
    let x = c.index.result.now in
    let at = found_at t a k i x c.in-Some-place.ensures.value c.in-Some-place.ensures.bound c.index.ensures in
    let too = found_at t a k i c.index_mut.result.now c.in-Some-place.ensures.value c.in-Some-place.ensures.bound c.index_mut.ensures.value in
    let same = ap (λ (z : Cell). z.opening) (too.cell ∙ sym at.cell) in
    let one = one_more xs cs ts a k by at.listed (trades_low (vec_items t.cells) _ (place_low t a k at.listed)) in
    let y : Cell = record { opening = c.index_mut.result.now.opening; traded = c.sum.result } in
    record {
      posted = posted_trades t a k i x _ by at same c.sum.ensures ∙ sym (ap (λ (o : Option ℕ). posted t o k by) c.in-Some.is);
      shifted = subst (λ (o : Option ℕ). Shifted xs cs (goes o k by) ts (trades (set (vec_items t.cells) i y))) (sym c.in-Some.is) (subst (λ (us : List Amount). Shifted xs cs (goes (Some a) k by) ts us) (sym (posted_trades t a k i x _ by at same c.sum.ensures)) one);
      kept = record { date = refl; accounts = refl; listings = refl; opening = posted_openings t a k i x _ by at same c.sum.ensures };
    }
