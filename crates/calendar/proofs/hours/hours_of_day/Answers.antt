use Rattle.std.proofs.lemmas.Nat.{ones-le}
use Rattle.calendar.proofs.hours.hours_of_day.Goals as goal

pub returns-clause-bound : goal.returns-clause-bound
returns-clause-bound g c = ones-le 25 c.mask.result c.mask.ensures.bound
