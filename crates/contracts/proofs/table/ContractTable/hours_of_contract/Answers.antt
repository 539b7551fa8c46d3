use Rattle.std.proofs.Common.{◌≡◌, ◌∙◌, sym, ap, eqb, vec_items, rules}
use Rattle.std.specs.List.{find}
use Rattle.calendar.specs.Hours.{hours_between}
use Rattle.contracts.specs.Hours.{mask_in}
use Rattle.contracts.proofs.Walks.{period_found, hours_between-found}
use Rattle.contracts.proofs.table.ContractTable.hours_of_contract.Goals as goal

pub returns-clause-value : goal.returns-clause-value
returns-clause-value g c =
    let is = vec_items c.args.self.now.instruments.rows in
    let x = c.args.contract in
    let u = x.terms.instrument in
    let found : c.map_or.result ≡ period_found g.P.Profile.mask x.terms.first.number x.last.number (find (λ i. eqb i.number u) is) = search rules in
    found ∙ sym (hours_between-found g.P.Profile.mask x.terms.first.number x.last.number is u) ∙ ap (hours_between (mask_in g.P.Profile.mask is u) x.terms.first.number) x.ends
