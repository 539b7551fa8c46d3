use Rattle.std.proofs.Common.{arith}
use Rattle.days.proofs.Tiling.{months_tile, months_few}
use Rattle.days.proofs.day.Day.month.Goals as goal

pub returns-clause-bound : goal.returns-clause-bound
returns-clause-bound c = omega (arith, c.month_of.ensures, months_few c.args.self.number c.args.self.within)

pub returns-clause-law : goal.returns-clause-law
returns-clause-law c = months_tile
