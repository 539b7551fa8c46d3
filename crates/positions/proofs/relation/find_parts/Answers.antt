use Rattle.positions.proofs.Finding.{one_more}
use Rattle.positions.proofs.relation.find_parts.Goals as goal

pub loop-k-preserved : goal.loop-k-preserved
loop-k-preserved g c = one_more c.loop-k.invariant c.loop-k-test.true c.in_ok-find_part.field-0 _ c.push.ensures.items c.in_ok-find_part.ensures
