use Rattle.std.proofs.Common.{ℕ, ◌+◌, ◌-◌, ◌*◌, ◌<◌, arith}
use Rattle.std.proofs.lemmas.Map.Keys.{le_from_is_le}
use Rattle.days.proofs.Naming.{day_fits}
use Rattle.days.proofs.day.Day.from_date.Goals as goal

fits : (c : goal.After-start_of-first) → c.start_of-first.result + (c.args.day - 1) < 36525
fits c =
    let year = c.if-not-contains.ensures.cases in
    let month = c.if-not-contains-2.ensures.cases in
    let m : ℕ = 12 * (c.args.year - 2000) + (c.args.month - 1) in
    let few : m < 1200 = omega (arith, le_from_is_le c.args.year c.new.result.end year.1, le_from_is_le c.args.month c.new-else-not-contains.result.end month.1) in
    omega (arith, day_fits m c.args.day few (omega arith) (omega (arith, c.length_of.ensures.value)))

pub overflow_add-result : goal.overflow_add-result
overflow_add-result c = let f = fits c in omega arith

pub invariant_of-result : goal.invariant_of-result
invariant_of-result c = record { within = fits c }
