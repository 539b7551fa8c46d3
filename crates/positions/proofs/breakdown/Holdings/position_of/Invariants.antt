use Rattle.std.proofs.Common.{cond, pos}
use Rattle.contracts.specs.Lines.{reaches}
use Rattle.contracts.specs.Seen.{seen}
use Rattle.contracts.specs.Views.{table_of}
use Rattle.positions.specs.Net.{placed}
use Rattle.positions.proofs.Shares.{Shared}
use Rattle.positions.proofs.breakdown.Holdings.position_of.Given as goal

abbrev pub invariant-loop-place : goal.invariant-loop-place
invariant-loop-place g l = Shared (λ i. cond (reaches (table_of l.self.table.now) i (seen l.self.table.now.date.number l.line)) (placed l.self.quantities.now i) (pos 0)) l.shares.items l.place
