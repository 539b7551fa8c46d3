use Rattle.std.proofs.Common.{◌≡◌, not, ◌||◌, get_or, vec_items, sym, ap, ◌∙◌, arith}
use Rattle.books.specs.Cells.{opens_within}
use Rattle.books.specs.State.{kind_of}
use Rattle.books.specs.declared.entry.Listing.{Listing}
use Rattle.books.proofs.Rows.{listings, found_some, place_under, kind_at}
use Rattle.opening.proofs.opening.Opening.suits_type.Goals as goal

pub index-requires : goal.index-requires
index-requires c =
    let ls = vec_items c.args.self.now.listings in
    let at = found_some listings c.args.row.contract ls c.in-Some.place (sym c.in-Some.is ∙ c.requires) in
    let n = c.args.self.now.listings.ok.0 in
    omega (arith, place_under listings c.args.row.contract ls at.0)

pub returns-in-Some : goal.returns-in-Some
returns-in-Some c =
    let ls = vec_items c.args.self.now.listings in
    let u = c.args.row.contract in
    let x = c.index.result.now in
    let at = found_some listings u ls c.in-Some.place (sym c.in-Some.is ∙ c.requires) in
    let kind : x.kind ≡ kind_of u ls = ap (λ (y : Listing). y.kind) c.index.ensures ∙ ap (λ i. (get_or ls i x).kind) at.1 ∙ kind_at u ls x at.0 in
    c.admits.ensures ∙ ap (λ k. opens_within k c.args.row.amount) kind ∙ ap (λ b. not b || opens_within (kind_of u ls) c.args.row.amount) (sym at.0)
