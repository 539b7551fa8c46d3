use Rattle.std.proofs.Common.{List, refl, ap, ◌∙◌}
use Rattle.books.specs.State.{State}
use Rattle.books.specs.declared.entry.Account.{Account}
use Rattle.ledger.specs.Views.{nobody}
use Rattle.desk.specs.Rows.{rows_in, rows_by}
use Rattle.desk.specs.declared.row.Row.{Row}
use Rattle.books.proofs.Joining.{joined_at, joined_end}
use Rattle.books.proofs.Rows.{accounts, is_of_list}
use Rattle.desk.proofs.cells.rows_of.Goals as goal

abbrev rows_for : State → Account → List Row
rows_for s x = rows_in s x.number s.listings

pub add_rows-requires : goal.add_rows-requires
add_rows-requires g c =
    record {
      follows = c.entries.ensures.follows;
      account = is_of_list accounts _ _ c.loop-account.account-index nobody _ (c.accounts-account-items.ensures ∙ c.entries.ensures.follows.accounts) c.loop-account-test.true refl;
    }

pub loop-account-preserved : goal.loop-account-preserved
loop-account-preserved g c =
    joined_at (rows_for (g.B.Book.state c.args.book.now)) _ _ c.accounts-account-items.result.now c.loop-account.account-index c.loop-account.invariant nobody _ _
    c.loop-account-test.true
    refl
    c.in_ok-add_rows.ensures

pub returns : goal.returns
returns g c =
    let s = g.B.Book.state c.args.book.now in
    joined_end (rows_for s) _ _ c.accounts-account-items.result.now c.loop-account.account-index c.loop-account.invariant c.loop-account-test.false
    ∙ ap (rows_by s) (c.accounts-account-items.ensures ∙ c.entries.ensures.follows.accounts)
