use Rattle.std.proofs.Common.{List, ℤ, string_bytes, ap, ◌∙◌, w64, SFits, rules}
use Rattle.std.proofs.lemmas.Int.{to_z-of_z}
use Rattle.positions.specs.Net.{placed}
use Rattle.lines.specs.Rows.{written}
use Rattle.lines.proofs.Rowwise.{one_more}
use Rattle.lines.proofs.report.report_of.Goals as goal

pub loop-i-preserved : goal.loop-i-preserved
loop-i-preserved c =
    let i = c.loop-i.i in
    let before-fits : SFits w64 c.at-before.result = search rules in
    let netted-fits : SFits w64 c.at-netted.result = search rules in
    one_more c.args.table.now c.args.positions.now c.deref-line-items.result.now _ i c.loop-i.invariant c.line-item.result (written c.row_of-row.result) (string_bytes c.writeln.new.self) _ _
    c.loop-i-test.true
    c.line-item.is
    c.in_ok-writeln.ensures.bytes
    c.row_of-row.ensures
    (to_z-of_z w64 c.at-before.result before-fits ∙ c.at-before.ensures ∙ ap (λ (xs : List ℤ). placed xs i) c.deref.ensures.value)
    (to_z-of_z w64 c.at-netted.result netted-fits ∙ c.at-netted.ensures ∙ ap (λ (xs : List ℤ). placed xs i) c.deref-in-loop-i.ensures.value)
