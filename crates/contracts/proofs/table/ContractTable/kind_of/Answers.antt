use Rattle.std.proofs.Common.{◌≡◌, eqb, vec_items, ◌∙◌, sym, rules}
use Rattle.std.specs.List.{find}
use Rattle.std.specs.Option.{option_map}
use Rattle.contracts.proofs.Walks.{kind_in-find}
use Rattle.contracts.proofs.table.ContractTable.kind_of.Goals as goal

pub returns : goal.returns
returns g c =
    let found : c.map.result ≡ option_map (λ i. i.kind) (find (λ i. eqb i.number c.args.number) (vec_items c.args.self.now.instruments.rows)) = search rules in
    found ∙ sym (kind_in-find (vec_items c.args.self.now.instruments.rows) c.args.number)
