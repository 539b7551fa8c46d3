use Rattle.books.proofs.Rows.{accounts, position_read}
use Rattle.opening.proofs.opening.Opening.place_of_account.Goals as goal

pub returns : goal.returns
returns c = position_read accounts c.args.number _ _ _ c.place_of.ensures c.deref.ensures.value
