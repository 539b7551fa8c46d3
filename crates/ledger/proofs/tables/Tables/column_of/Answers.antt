use Rattle.books.proofs.Rows.{listings, position_read}
use Rattle.ledger.proofs.tables.Tables.column_of.Goals as goal

pub returns-clause-value : goal.returns-clause-value
returns-clause-value c = position_read listings c.args.contract _ _ _ c.place_of.ensures c.deref.ensures.value
