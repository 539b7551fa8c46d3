use Rattle.calendar.proofs.Published.{stand}
use Rattle.calendar.proofs.hours.published_hours.Goals as goal

pub returns-clause-stand : goal.returns-clause-stand
returns-clause-stand c = stand
