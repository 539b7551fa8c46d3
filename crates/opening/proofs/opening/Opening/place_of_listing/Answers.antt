use Rattle.books.proofs.Rows.{listings, position_read}
use Rattle.opening.proofs.opening.Opening.place_of_listing.Goals as goal

pub returns : goal.returns
returns c = position_read listings c.args.number _ _ _ c.place_of.ensures c.deref.ensures.value
