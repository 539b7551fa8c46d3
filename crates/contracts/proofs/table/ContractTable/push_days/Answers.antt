use Rattle.std.proofs.Common.{◌+◌, List, ◌++◌, map, vec_items, sym, ap, ◌∙◌}
use Rattle.contracts.specs.Lines as spec
use Rattle.contracts.specs.Seen.{seen}
use Rattle.contracts.proofs.Orders.{one_more, days_more}
use Rattle.contracts.proofs.table.ContractTable.push_days.Goals as goal

pub loop-number-preserved : goal.loop-number-preserved
loop-number-preserved g c =
    let s = c.args.self.now in
    let n = c.loop-number.number in
    let here = days_more c.args.instrument n (s.horizon.number + 1) c.loop-number-test.true in
    one_more s.date.number (vec_items c.loop-number.lines) _ _ _ _ c.in_ok-push.ensures.items
    (ap (λ (r : List spec.Line). map (seen s.date.number) (vec_items c.loop-number.lines) ++ r) (sym here) ∙ c.loop-number.invariant)
