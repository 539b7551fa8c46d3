use Rattle.std.proofs.Common.{arith}
use Rattle.std.proofs.lemmas.Grind.{common_steps}
use Rattle.text.proofs.Spellings.{one_spelling}
use Rattle.text.proofs.field.number.Goals as goal

pub returns-in_err-unsigned-in-45-clause-law : goal.returns-in_err-unsigned-in-45-clause-law
returns-in_err-unsigned-in-45-clause-law c = one_spelling _ _ (grind (arith, common_steps))

pub returns-in_ok-unsigned-in-45-clause-law : goal.returns-in_ok-unsigned-in-45-clause-law
returns-in_ok-unsigned-in-45-clause-law c = one_spelling _ _ (grind (arith, common_steps))

pub returns-in_default-clause-law : goal.returns-in_default-clause-law
returns-in_default-clause-law c = one_spelling _ _ (grind (arith, common_steps))
