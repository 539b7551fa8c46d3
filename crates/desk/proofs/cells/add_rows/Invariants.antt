use Rattle.std.proofs.Common.{◌≡◌, ◌++◌, drop, vec_items}
use Rattle.desk.specs.Rows.{rows_in}
use Rattle.desk.proofs.cells.add_rows.Given as goal

abbrev pub invariant-loop-listing : goal.invariant-loop-listing
invariant-loop-listing g l =
    vec_items l.rows ++ rows_in (g.B.Book.state l.book) l.account (drop l.listing-index l.listing-items)
    ≡ vec_items l.initial.rows ++ rows_in (g.B.Book.state l.book) l.account l.listing-items
