use Rattle.std.proofs.Common.{◌≡◌, ◌++◌, map, drop, vec_items}
use Rattle.contracts.specs.Lines.{owns}
use Rattle.contracts.specs.Rows.{listed}
use Rattle.contracts.specs.Seen.{seen}
use Rattle.contracts.specs.Views.{table_of}
use Rattle.contracts.proofs.table.ContractTable.push_own.Given as goal

abbrev pub invariant-loop-i : goal.invariant-loop-i
invariant-loop-i g l =
    map (seen l.self.date.number) (vec_items l.lines) ++ owns (table_of l.self) l.i (map listed (drop l.i (vec_items l.self.contracts.rows)))
    ≡ map (seen l.self.date.number) (vec_items l.initial.lines) ++ owns (table_of l.self) 0 (table_of l.self).contracts
