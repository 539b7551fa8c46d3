use Rattle.std.proofs.Common.{◌≡◌, ◌+◌, ◌-◌, vec_items, sym, ap, ◌∙◌, arith}
use Rattle.contracts.specs.Hours.{hours_when, mask_in}
use Rattle.contracts.specs.Lines.{delivers, instr_of}
use Rattle.contracts.specs.Seen.{seen}
use Rattle.contracts.specs.Views.{table_of}
use Rattle.contracts.proofs.Spans.{hours_none, hours_more, hours_past, no_delivery}
use Rattle.contracts.proofs.table.ContractTable.hours_of_line.Goals as goal

pub loop-number-init : goal.loop-number-init
loop-number-init g c =
    let n = c.span_of-span.result.first.number in
    let small = c.span_of-span.result.first.within in
    (sym (hours_none _ _ n (λ d h. no_delivery _ (λ e. (let o = c.span_of-span.ensures d (omega arith) e in omega arith)))), omega arith)

pub loop-number-preserved : goal.loop-number-preserved
loop-number-preserved g c =
    let s = c.args.self.now in
    let l = seen s.date.number c.args.line in
    let v = c.line_hours_on-sum.ensures.value in
    let b = c.line_hours_on-sum.ensures.bound in
    let i = c.loop-number.invariant in
    let more = hours_more (delivers (table_of s) l) (mask_in g.P.Profile.mask (vec_items s.instruments.rows) (instr_of (table_of s) l)) c.loop-number.number in
    (omega (arith, i.0, v, more), omega (arith, i.1, b))

pub returns : goal.returns
returns g c =
    let n = c.loop-number.number in
    let last = c.span_of-span.result.last.within in
    let order = c.span_of-span.result.ordered in
    let end = c.loop-number.auto.number-end (omega arith) in
    let i = c.loop-number.invariant in
    let all : n + (36525 - n) ≡ 36525 = omega arith in
    i.0 ∙ sym (hours_past _ _ n (36525 - n) (λ d a b. no_delivery _ (λ e. (let o = c.span_of-span.ensures d (omega arith) e in omega arith)))) ∙ ap (hours_when _ _) all
