use Rattle.std.proofs.Common.{arith}
use Rattle.calendar.proofs.Parts.{last_after}
use Rattle.contracts.proofs.contract.Contract.period.Goals as goal

pub invariant_of-result : goal.invariant_of-result
invariant_of-result c =
    let ends = c.args.self.ends in
    let after = last_after c.args.self.terms.maturity c.args.self.terms.first.number in
    record { ordered = omega arith }
