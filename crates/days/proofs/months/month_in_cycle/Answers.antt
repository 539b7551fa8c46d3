use Rattle.std.proofs.Common.{arith}
use Rattle.days.specs.Months.{lengths}
use Rattle.days.proofs.Tiling.{from_here, from_later, from_none}
use Rattle.days.proofs.months.month_in_cycle.Goals as goal

pub returns-then-left-length-clause-value : goal.returns-then-left-length-clause-value
unfolding lengths
returns-then-left-length-clause-value c =
    let h = from_here c.loop-month.month c.loop-month.left c.loop-month-test.true c.if-left-length.true in
    omega (arith, c.loop-month.invariant)

pub loop-month-preserved : goal.loop-month-preserved
unfolding lengths
loop-month-preserved c =
    let h = from_later c.loop-month.month c.loop-month.left c.loop-month-test.true c.if-left-length.false in
    omega (arith, c.loop-month.invariant)

pub returns-clause-value : goal.returns-clause-value
unfolding lengths
returns-clause-value c =
    let h = from_none c.loop-month.month c.loop-month.left c.loop-month-test.false in
    omega (arith, c.loop-month.invariant)
