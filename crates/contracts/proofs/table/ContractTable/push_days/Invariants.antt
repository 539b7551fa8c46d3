use Rattle.std.proofs.Common.{◌≡◌, ◌+◌, ◌-◌, ◌++◌, map, vec_items}
use Rattle.std.specs.List.{range_with_len}
use Rattle.contracts.specs.Lines.{day}
use Rattle.contracts.specs.Seen.{seen}
use Rattle.contracts.proofs.table.ContractTable.push_days.Given as goal

abbrev pub invariant-loop-number : goal.invariant-loop-number
invariant-loop-number g l =
    map (seen l.self.date.number) (vec_items l.lines) ++ map (day l.instrument) (range_with_len l.number (l.self.horizon.number + 1 - l.number))
    ≡ map (seen l.self.date.number) (vec_items l.initial.lines) ++ map (day l.instrument) (range_with_len (l.self.date.number + 1) (l.self.horizon.number - l.self.date.number))
