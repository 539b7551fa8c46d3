use Rattle.std.proofs.Common.{ℕ, ◌*◌, ◌<◌, IfSome, Option, vec_items, vec_len, sym, ap, ◌∙◌, subst}
use Rattle.books.specs.State.{kind_of, cell_within}
use Rattle.ledger.proofs.AtPlace.{found_at}
use Rattle.ledger.proofs.tables.Tables.cell.Goals as goal

pub returns-clause-range : goal.returns-clause-range
returns-clause-range c =
    let t = c.args.self.now in
    let low = subst (λ (o : Option ℕ). IfSome o (λ i. i < 32 * vec_len t.listings)) c.in_ok-at.ensures.ok_part c.place.ensures.bound in
    let at = found_at t c.args.account c.args.contract c.in_ok-at.at c.index.result.now (sym c.in_ok-at.ensures.ok_part ∙ c.place.ensures.value) low c.index.ensures in
    ap (cell_within (kind_of c.args.contract (vec_items t.listings))) at.cell ∙ t.within c.args.account c.args.contract at.listed
