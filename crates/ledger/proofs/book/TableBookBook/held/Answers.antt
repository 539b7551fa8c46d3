use Rattle.std.proofs.Common.{◌∙◌}
use Rattle.ledger.proofs.OfBook.{held_of}
use Rattle.ledger.proofs.book.TableBookBook.held.Goals as goal

pub returns-clause-value : goal.returns-clause-value
returns-clause-value c = c.held.ensures.value ∙ held_of c.args.self.now c.args.whose c.args.contract
