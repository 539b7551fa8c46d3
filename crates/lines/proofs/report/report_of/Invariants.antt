use Rattle.std.proofs.Common.{◌≡◌, ◌++◌, map, drop, vec_items, string_bytes}
use Rattle.calendar.specs.Loads.{load_mask}
use Rattle.contracts.specs.Hours.{mask_in}
use Rattle.contracts.specs.Seen.{seen}
use Rattle.contracts.specs.Views.{table_of}
use Rattle.positions.specs.Net.{placed}
use Rattle.lines.specs.Rows.{rows_from, report_of}
use Rattle.lines.proofs.report.report_of.Given as goal

abbrev pub invariant-loop-i : goal.invariant-loop-i
invariant-loop-i l =
    string_bytes l.text ++ rows_from (mask_in load_mask (vec_items l.table.instruments.rows)) (table_of l.table) (placed (vec_items l.positions.before)) (placed (vec_items l.positions.netted)) l.i (map (seen l.table.date.number) (drop l.i l.line-items))
    ≡ report_of (mask_in load_mask (vec_items l.table.instruments.rows)) (table_of l.table) (vec_items l.positions.before) (vec_items l.positions.netted)
