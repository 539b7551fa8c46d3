use Rattle.std.proofs.Common.{◌≡◌, ◌++◌, drop, vec_items}
use Rattle.desk.specs.Rows.{rows_by}
use Rattle.desk.proofs.cells.rows_of.Given as goal

abbrev pub invariant-loop-account : goal.invariant-loop-account
invariant-loop-account g l =
    vec_items l.rows ++ rows_by (g.B.Book.state l.book) (drop l.account-index l.account-items)
    ≡ rows_by (g.B.Book.state l.book) l.account-items
