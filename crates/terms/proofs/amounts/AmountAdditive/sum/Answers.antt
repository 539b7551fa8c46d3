use Rattle.std.proofs.Common.{arith}
use borrow.Author.Differences.{ints, abs_is}
use Rattle.std.proofs.lemmas.Int.{to_z-of_z}
use Rattle.terms.proofs.amounts.AmountAdditive.sum.Goals as goal

pub returns : goal.returns
returns c = grind (arith, ints, abs_is, to_z-of_z)
