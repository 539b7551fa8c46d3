use Rattle.std.proofs.Common.{◌≡◌, ◌∙◌, sym, eqb, vec_items, rules}
use Rattle.std.specs.List.{find}
use Rattle.contracts.proofs.Walks.{hours_found, ones-found}
use Rattle.contracts.proofs.table.ContractTable.hours_on.Goals as goal

pub returns-clause-value : goal.returns-clause-value
returns-clause-value g c =
    let is = vec_items c.args.self.now.instruments.rows in
    let u = c.args.instrument in
    let found : c.map_or.result ≡ hours_found g.P.Profile.mask c.args.day.number (find (λ i. eqb i.number u) is) = search rules in
    found ∙ sym (ones-found g.P.Profile.mask is u c.args.day.number)
