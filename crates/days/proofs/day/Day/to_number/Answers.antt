use Rattle.std.proofs.Common.{◌≡◌, ◌+◌, ◌*◌, ◌/◌, ◌%◌, ◌∙◌, arith}
use Rattle.days.specs.Days.{numbered}
use Rattle.days.proofs.Naming.{day_of_number}
use Rattle.days.proofs.day.Day.to_number.Goals as goal

number : (c : goal.After-from) → 10000 * (2000 + c.from-month.result / 12) + 100 * (c.from-month.result % 12 + 1) + c.from.result ≡ numbered c.args.self.number
unfolding numbered
number c =
    let m = c.from-month.ensures ∙ c.month.ensures.value in
    let f = c.first_of_month-first.ensures.value in
    let d = c.from.ensures in
    omega arith

pub returns : goal.returns
returns c = record { value = number c; law = day_of_number c.args.self.number _ c.args.self.within (number c) }
