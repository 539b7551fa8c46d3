use Rattle.std.proofs.Common.{ℕ, ◌+◌, ◌-◌, Some, None, sym, arith}
use Rattle.std.proofs.lemmas.Bool.{le-ltb, cond-false}
use Rattle.days.specs.Months.{month_of, month_start}
use Rattle.days.proofs.Tiling.{last_within, last_past}
use Rattle.days.proofs.day.Day.last_of_month_after.Goals as goal

pub returns-then-months-month : goal.returns-then-months-month
returns-then-months-month c =
    let m : ℕ = month_of c.args.self.number + c.args.months in
    let v = c.month-month.ensures.value in
    sym (cond-false _ (Some (month_start (m + 1) - 1)) None (le-ltb _ 36525 (last_past m (omega arith))))

pub overflow_sub-result : goal.overflow_sub-result
overflow_sub-result c = let e = c.start_of.ensures in let l = last_within (c.month-month.result + c.args.months) (omega arith) in omega arith

pub invariant_of-result : goal.invariant_of-result
invariant_of-result c = let e = c.start_of.ensures in let l = last_within (c.month-month.result + c.args.months) (omega arith) in record { within = omega arith }
