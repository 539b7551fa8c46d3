use Rattle.std.proofs.Common.{◌≡◌, ◌+◌, ◌-◌, true, refl, subst, arith}
use Rattle.days.specs.Months.{month_of, month_start}
use Rattle.contracts.specs.Lines.{delivers}
use Rattle.contracts.specs.Seen.{rest_month, seen}
use Rattle.contracts.specs.Views.{table_of}
use Rattle.contracts.specs.declared.line.Line.{Line}
use Rattle.contracts.proofs.Spans.{rest_span, near_month, by_end}
use Rattle.contracts.proofs.table.ContractTable.span_of.Goals as goal

pub returns-in-Rest : goal.returns-in-Rest
returns-in-Rest g c d small e =
    let s = c.args.self.now in
    let t = table_of s in
    let on = subst (λ (l : Line). delivers t (seen t.date l) d ≡ true) c.in-Rest.is e in
    let r = rest_span t c.in-Rest.field-0 (rest_month t.date c.in-Rest.field-1) d (month_start (month_of t.date + 1 + 1) - 1) s.ahead (near_month t.date c.in-Rest.field-1) on refl in
    let l = by_end _ _ _ _ d c.last_of_month_after.ensures c.unwrap_or.ensures refl small r.1 in
    let a = c.span-in-Rest.ensures.start in
    let b = c.span-in-Rest.ensures.end in
    (omega arith, omega arith)
