use Rattle.std.proofs.Common.{refl}
use Rattle.terms.specs.Amounts.{no_amount}
use Rattle.desk.specs.Texts.{line, row_text}
use Rattle.desk.specs.declared.row.Row.{Row}
use Rattle.books.proofs.Joining.{joined_at, joined_end}
use Rattle.desk.proofs.report.add_rows.Goals as goal

abbrev no_row : Row
no_row = record { account = 0; contract = 0; cell = record { opening = no_amount; traded = no_amount } }

pub loop-row-preserved : goal.loop-row-preserved
loop-row-preserved c = joined_at (λ (x : Row). line (row_text x)) _ _ c.args.rows.now c.loop-row.row-index c.loop-row.invariant no_row _ _ c.loop-row-test.true refl c.in_ok-writeln.ensures.bytes

pub returns : goal.returns
returns c = joined_end (λ (x : Row). line (row_text x)) _ _ c.args.rows.now c.loop-row.row-index c.loop-row.invariant c.loop-row-test.false
