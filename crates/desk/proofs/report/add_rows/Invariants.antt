use Rattle.std.proofs.Common.{◌≡◌, ◌++◌, drop, string_bytes}
use Rattle.desk.specs.Texts.{row_lines}
use Rattle.desk.proofs.report.add_rows.Given as goal

abbrev pub invariant-loop-row : goal.invariant-loop-row
invariant-loop-row l = string_bytes l.text ++ row_lines (drop l.row-index l.rows) ≡ string_bytes l.initial.text ++ row_lines l.rows
