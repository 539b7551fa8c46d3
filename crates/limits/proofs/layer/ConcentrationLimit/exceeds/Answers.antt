use Rattle.limits.proofs.Refusing.{has_listing, refused_out, refused_into}
use Rattle.limits.proofs.layer.ConcentrationLimit.exceeds.Goals as goal

pub is_over-requires : goal.is_over-requires
is_over-requires g c = has_listing g.S.Summing.scope c.args.self.now.table c.args.call c.requires.follows c.requires.taken c.entry_for.ensures c.shift-shift.ensures c.limit_of.ensures c.in-Some.most c.in-Some.is

pub is_over-requires-else-is_over : goal.is_over-requires-else-is_over
is_over-requires-else-is_over g c = has_listing g.S.Summing.scope c.args.self.now.table c.args.call c.requires.follows c.requires.taken c.entry_for.ensures c.shift-shift.ensures c.limit_of.ensures c.in-Some.most c.in-Some.is

pub returns-then-is_over : goal.returns-then-is_over
returns-then-is_over g c = refused_out g.S.Summing.scope c.args.self.now.table c.args.call c.requires.follows c.requires.taken c.entry_for.ensures c.shift-shift.ensures c.limit_of.ensures c.in-Some.most c.is_over.result c.in-Some.is c.is_over.ensures c.if-is_over.true

pub returns-else-is_over : goal.returns-else-is_over
returns-else-is_over g c = refused_into g.S.Summing.scope c.args.self.now.table c.args.call c.requires.follows c.requires.taken c.entry_for.ensures c.shift-shift.ensures c.limit_of.ensures c.in-Some.most c.is_over.result c.is_over-else-is_over.result c.in-Some.is c.is_over.ensures c.is_over-else-is_over.ensures c.if-is_over.false
