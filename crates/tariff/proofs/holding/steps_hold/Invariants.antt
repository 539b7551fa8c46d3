use Rattle.std.proofs.Common.{◌≡◌, drop, negsuc}
use Rattle.tariff.specs.Ranges.{rise_from}
use Rattle.tariff.proofs.holding.steps_hold.Given as goal

abbrev pub invariant-loop-step : goal.invariant-loop-step
invariant-loop-step l = rise_from l.before (drop l.step-index l.steps) ≡ rise_from (negsuc 0) l.steps
