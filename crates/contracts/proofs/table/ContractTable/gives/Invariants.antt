use Rattle.std.proofs.Common.{◌≡◌, false}
use Rattle.contracts.specs.Lines.{any_below, gives_on}
use Rattle.contracts.specs.Rows.{listed}
use Rattle.contracts.specs.Seen.{seen}
use Rattle.contracts.specs.Views.{table_of}
use Rattle.contracts.proofs.table.ContractTable.gives.Given as goal

abbrev pub invariant-loop-number : goal.invariant-loop-number
invariant-loop-number g l = any_below (gives_on (table_of l.self) (listed l.contract) (seen l.self.date.number l.line)) l.number ≡ false
