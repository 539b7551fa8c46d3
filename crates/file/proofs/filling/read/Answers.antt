use Rattle.file.proofs.Law.{lawful}
use Rattle.file.proofs.filling.read.Goals as goal

pub returns-in_err-tables-clause-law : goal.returns-in_err-tables-clause-law
returns-in_err-tables-clause-law c = lawful c.args.file.now
