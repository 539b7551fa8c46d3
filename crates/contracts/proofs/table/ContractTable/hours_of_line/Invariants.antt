use Rattle.std.proofs.Common.{◌≡◌, ◌*◌, ◌≤◌, vec_items}
use Rattle.contracts.specs.Hours.{hours_when, mask_in}
use Rattle.contracts.specs.Lines.{delivers, instr_of}
use Rattle.contracts.specs.Seen.{seen}
use Rattle.contracts.specs.Views.{table_of}
use Rattle.contracts.proofs.table.ContractTable.hours_of_line.Given as goal

abbrev pub invariant-loop-number : goal.invariant-loop-number
invariant-loop-number g l =
    (l.sum ≡ hours_when (delivers (table_of l.self) (seen l.self.date.number l.line)) (mask_in g.P.Profile.mask (vec_items l.self.instruments.rows) (instr_of (table_of l.self) (seen l.self.date.number l.line))) l.number)
    × (l.sum ≤ 25 * l.number)
