use Rattle.books.proofs.Rows.{accounts, position_read}
use Rattle.ledger.proofs.tables.Tables.row_of.Goals as goal

pub returns-clause-value : goal.returns-clause-value
returns-clause-value c = position_read accounts c.args.account _ _ _ c.place_of.ensures c.deref.ensures.value
