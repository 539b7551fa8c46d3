use Rattle.std.proofs.Common.{ℕ, List, vec_items, Option, ap, ◌∙◌, subst, ap₂}
use Rattle.std.proofs.lemmas.Bool.{and_parts}
use Rattle.terms.specs.Amounts.{amount_minus}
use Rattle.books.specs.Shifts.{movement_of}
use Rattle.books.specs.declared.entry.Account.{Account}
use Rattle.books.specs.declared.entry.Listing.{Listing}
use Rattle.ledger.specs.Places.{trades, goes, Shifted}
use Rattle.ledger.specs.Views.{bears_by}
use Rattle.ledger.proofs.Shifting.{shifted_as, both_more, still_bears}
use Rattle.ledger.proofs.tables.Tables.apply.Goals as goal

pub post-requires-2 : goal.post-requires-2
post-requires-2 c =
    let t = c.args.self.now in
    let u = c.post.new.self in
    let h = c.args.shift in
    let p = c.out_of.ensures in
    let q = c.into.ensures in
    let both = and_parts (bears_by t h.from h.contract (amount_minus h.amount)) (bears_by t h.to h.contract h.amount) c.requires.bears in
    let first = shifted_as (vec_items t.accounts) (vec_items t.listings) (trades (vec_items t.cells)) (trades (vec_items u.cells)) _ _ _ _ _ _ p.account p.contract p.amount c.post.ensures.shifted in
    ap₂ (λ (o : Option ℕ) k. bears_by u o k c.into.result.amount) q.account q.contract ∙ ap (bears_by u h.to h.contract) q.amount
    ∙ still_bears t u h.from h.to h.contract (amount_minus h.amount) h.amount c.post.ensures.kept first c.requires.apart both.1

pub returns-clause-shifted : goal.returns-clause-shifted
returns-clause-shifted c =
    let t = c.args.self.now in
    let u = c.post.new.self in
    let v = c.post-2.new.self in
    let h = c.args.shift in
    let k = c.post.ensures.kept in
    let p = c.out_of.ensures in
    let q = c.into.ensures in
    let ts = trades (vec_items t.cells) in
    let us = trades (vec_items u.cells) in
    let vs = trades (vec_items v.cells) in
    let first : Shifted (vec_items t.accounts) (vec_items t.listings) (goes h.from h.contract (amount_minus h.amount)) ts us = shifted_as _ _ ts us _ _ _ _ _ _ p.account p.contract p.amount c.post.ensures.shifted in
    let second : Shifted (vec_items t.accounts) (vec_items t.listings) (goes h.to h.contract h.amount) us vs =
    subst (λ (xs : List Account). Shifted xs (vec_items t.listings) (goes h.to h.contract h.amount) us vs) (ap vec_items k.accounts)
    (subst (λ (cs : List Listing). Shifted (vec_items u.accounts) cs (goes h.to h.contract h.amount) us vs) (ap vec_items k.listings)
    (shifted_as _ _ us vs _ _ _ _ _ _ q.account q.contract q.amount c.post-2.ensures.shifted)) in
    both_more (vec_items t.accounts) (vec_items t.listings) (movement_of h) ts us vs first second
