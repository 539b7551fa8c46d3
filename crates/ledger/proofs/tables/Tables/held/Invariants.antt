use Rattle.std.proofs.Common.{vec_items}
use Rattle.ledger.specs.Views.{net_of}
use Rattle.ledger.proofs.Summing.{Summed}
use Rattle.ledger.proofs.tables.Tables.held.Given as goal

abbrev pub invariant-loop-row : goal.invariant-loop-row
invariant-loop-row l = Summed l.whose (λ a. net_of l.self a l.contract) (vec_items l.self.accounts) l.nets.items l.row
