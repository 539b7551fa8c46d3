use Rattle.std.proofs.Common.{◌≡◌, ◌-◌, ◌*◌, ◌≤◌}
use Rattle.calendar.specs.Hours.{hours_from}
use Rattle.calendar.proofs.hours.hours_of_period.Given as goal

abbrev pub invariant-loop-number : goal.invariant-loop-number
invariant-loop-number g l =
    (l.sum ≡ hours_from (g.P.Profile.mask l.profile) l.fn.period.first.number (l.number - l.fn.period.first.number))
    × (l.sum ≤ 25 * (l.number - l.fn.period.first.number))
