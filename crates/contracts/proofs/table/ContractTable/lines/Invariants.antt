use Rattle.std.proofs.Common.{◌≡◌, ◌++◌, map, drop, vec_items}
use Rattle.contracts.specs.Lines.{all_timely}
use Rattle.contracts.specs.Seen.{seen}
use Rattle.contracts.specs.Table.{numbers}
use Rattle.contracts.specs.Views.{table_of}
use Rattle.contracts.proofs.Orders.{numbers_of}
use Rattle.contracts.proofs.table.ContractTable.lines.Given as goal

abbrev pub invariant-loop-i : goal.invariant-loop-i
invariant-loop-i g l =
    map (seen l.self.date.number) (vec_items l.lines) ++ all_timely (table_of l.self) (numbers_of (drop l.i-index (vec_items l.self.instruments.rows)))
    ≡ all_timely (table_of l.self) (numbers (table_of l.self))
