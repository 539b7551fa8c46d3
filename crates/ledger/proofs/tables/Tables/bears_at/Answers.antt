use Rattle.std.proofs.Common.{◌≡◌, Bool, true, false, cond, Ok, Err, Result, MatchResult, IfOk, vec_items, ap, ◌∙◌, subst, rules}
use Rattle.terms.specs.Amounts.{amount_plus}
use Rattle.terms.specs.declared.refusal.Refusal.{Refusal}
use Rattle.terms.specs.declared.refusal.Refusal.TheVariants.{NotInBook}
use Rattle.books.specs.Cells.{trades_within}
use Rattle.books.specs.State.{kind_of, cell_within}
use Rattle.books.specs.declared.entry.Cell.{Cell}
use Rattle.ledger.specs.Views.{is_in, holding_of}
use Rattle.ledger.proofs.Ranges.{cell_sizes}
use Rattle.ledger.proofs.tables.Tables.bears_at.Goals as goal

pub is_ok_and-requires : goal.is_ok_and-requires
is_ok_and-requires c = λ x is _ _ _ _ _. (
    let k = kind_of c.args.posting.contract (vec_items c.args.self.now.listings) in
    let s = cell_sizes k x (subst (λ (r : Result Cell Refusal). IfOk r (λ y. cell_within k y ≡ true)) is c.cell-cell.ensures.range) in
    (s.opening, s.traded))

-- what was asked of a cell, where it is shown
asked : (b : Bool) (y : Cell) (r : Result Cell Refusal) (q : Bool) (g : Cell → Bool) {P : Cell → Type 0} → r ≡ cond b (Ok y) (Err NotInBook) → MatchResult r P (λ _. q ≡ false) → ((x : Cell) → P x → q ≡ g x) → q ≡ cond b (g y) false
asked true y (Ok x) q g e h f = f x h ∙ ap g cc
asked false y (Ok x) q g e h f = absurd cc
asked true y (Err i) q g e h f = absurd cc
asked false y (Err i) q g e h f = h

pub returns : goal.returns
returns c =
    let t = c.args.self.now in
    let a = c.args.account in
    let k = c.args.posting.contract in
    asked (is_in t a k) ((holding_of t).cell a k) c.cell-cell.result c.is_ok_and.result (λ (x : Cell). trades_within x.opening (amount_plus x.traded c.args.posting.amount)) c.cell-cell.ensures.value c.is_ok_and.ensures (λ x h. search rules)
