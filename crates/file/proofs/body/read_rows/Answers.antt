use Rattle.std.proofs.Common.{◌≡◌, ◌+◌, ◌-◌, suc, List, map, Ok, sym, ap, ◌∙◌, arith}
use Rattle.std.proofs.lemmas.Result.{err_from_is_err_and}
use Rattle.text.specs.Fields.{see}
use Rattle.text.specs.declared.field.Field.{Field}
use Rattle.file.specs.Plan.{at}
use Rattle.file.specs.Walk.{body_of}
use Rattle.file.proofs.Steps.{refused, taken, next_is, next_refused}
use Rattle.file.proofs.Walking.{body_more, body_stops}
use Rattle.file.proofs.body.read_rows.Goals as goal

pub returns-in_err-at_line-clause-rows : goal.returns-in_err-at_line-clause-rows
returns-in_err-at_line-clause-rows g c =
    let says = g.R.Row.says in
    let v = g.R.Row.view c.loop.table in
    let i = c.loop.counter in
    let n = c.loop.lines.number in
    let bs = c.loop.lines.rest.now in
    let line = c.in_ok-line.line in
    let q = c.in_err-at_line.field-0.0 in
    let k : c.args.count - i ≡ suc (c.args.count - (i + 1)) = omega (arith, c.loop-test.true) in
    let p = err_from_is_err_and c.from_residual-in_err-at_line.result c.from_residual-in_err-at_line.ensures.1 in
    let said = refused line c.add.result q _ _ c.in_err-at_line.ensures c.add.ensures.added ∙ ap (λ (fs : List Field). at line (says v (map see fs))) c.deref.ensures.value in
    let stop = next_refused (says v) n bs c.next.new.self.rest.now _ line q c.in_ok-line.ensures.next said in
    rw (p.1, p.2) (body_stops says (c.args.count - i) (c.args.count - (i + 1)) n v bs _ c.loop.invariant.0 k q stop)

pub loop-preserved : goal.loop-preserved
loop-preserved g c =
    let says = g.R.Row.says in
    let i = c.loop.counter in
    let v = g.R.Row.view c.loop.table in
    let u = g.R.Row.view c.add.new.table in
    let n = c.loop.lines.number in
    let bs = c.loop.lines.rest.now in
    let rest = c.next.new.self.rest.now in
    let k : c.args.count - i ≡ suc (c.args.count - (i + 1)) = omega (arith, c.loop-test.true) in
    let said = taken c.in_ok-line.line c.add.result _ _ _ c.in_ok-at_line.ensures c.add.ensures.added ∙ ap (λ (fs : List Field). says v (map see fs)) c.deref.ensures.value in
    let line = next_is (says v) n bs rest _ c.in_ok-line.line (Ok u) c.in_ok-line.ensures.next said in
    let number = c.in_ok-line.ensures.number in
    let counted = c.loop.invariant.1 in (
      ap (λ m. body_of says (c.args.count - (i + 1)) m u rest) number
          ∙ body_more says (c.args.count - i) (c.args.count - (i + 1)) n v bs _ c.loop.invariant.0 k u rest (sym line),
      omega arith,
    )
