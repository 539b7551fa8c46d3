use Rattle.std.proofs.Common.{◌≡◌, ℕ, List, ◌++◌, vec_items, Option, sym, ap, ◌∙◌}
use Rattle.std.proofs.lemmas.List.{append-nil}
use Rattle.std.specs.Option.{option_to_list}
use Rattle.books.specs.State.{State, cell_of}
use Rattle.books.specs.declared.entry.Listing.{Listing}
use Rattle.desk.specs.Rows.{row_of, rows_in}
use Rattle.desk.specs.declared.row.Row.{Row}
use Rattle.books.proofs.Joining.{joined_at, joined_end}
use Rattle.books.proofs.Rows.{listings, is_of_list}
use Rattle.desk.proofs.cells.add_rows.Goals.{in-Some+in_ok-push, in_default}
use Rattle.desk.proofs.cells.add_rows.Goals as goal

abbrev rows_at : State → ℕ → Listing → List Row
rows_at s a y = option_to_list (row_of a y.number (cell_of s a y.number))

pub row_for-requires : goal.row_for-requires
row_for-requires g c =
    record {
      follows = c.requires.follows;
      account = c.requires.account;
      contract = is_of_list listings _ _ c.loop-listing.listing-index _ c.listing-item.result (c.listings-listing-items.ensures ∙ c.requires.follows.listings) c.loop-listing-test.true c.listing-item.is;
    }

pub loop-listing-preserved : goal.loop-listing-preserved
loop-listing-preserved g c =
    let next : vec_items c.match-row_for.rows ≡ vec_items c.loop-listing.rows ++ option_to_list c.row_for.result = elim c.match-row_for.branch [
      | in-Some+in_ok-push w ↦ ap vec_items w.rows-is ∙ w.in_ok-push.ensures.items ∙ ap (λ (r : Option Row). vec_items c.loop-listing.rows ++ option_to_list r) (sym w.in-Some.is)
      | in_default w ↦ ap vec_items w.rows-is ∙ sym (append-nil (vec_items c.loop-listing.rows)) ∙ ap (λ (r : Option Row). vec_items c.loop-listing.rows ++ option_to_list r) (sym w.in_default.is)
    ] in
    joined_at (rows_at (g.B.Book.state c.args.book.now) c.args.account) _ _ c.listings-listing-items.result.now c.loop-listing.listing-index c.loop-listing.invariant _ c.listing-item.result _
    c.loop-listing-test.true
    c.listing-item.is
    (next ∙ ap (λ (r : Option Row). vec_items c.loop-listing.rows ++ option_to_list r) c.row_for.ensures)

pub returns : goal.returns
returns g c =
    let s = g.B.Book.state c.args.book.now in
    joined_end (rows_at s c.args.account) _ _ c.listings-listing-items.result.now c.loop-listing.listing-index c.loop-listing.invariant c.loop-listing-test.false
    ∙ ap (λ (ys : List Listing). vec_items c.args.rows.now ++ rows_in s c.args.account ys) (c.listings-listing-items.ensures ∙ c.requires.follows.listings)
