use Rattle.contracts.specs.Views.{table_of}
use Rattle.positions.proofs.Finding.{Sofar}
use Rattle.positions.proofs.relation.find_parts.Given as goal

abbrev pub invariant-loop-k : goal.invariant-loop-k
invariant-loop-k g l = Sofar (table_of l.table) l.instrument l.shape.part l.shape.months l.month l.shape.count l.places.items l.k
