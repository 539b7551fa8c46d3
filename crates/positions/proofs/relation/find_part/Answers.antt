use Rattle.std.proofs.Common.{◌≡◌, ℕ, ◌<◌, true, false, length, get_or, vec_items, rules}
use Rattle.std.specs.Option.{MatchOption}
use Rattle.contracts.specs.Rows.{listed}
use Rattle.contracts.specs.Views.{table_of}
use Rattle.contracts.specs.declared.contract.Contract.{Contract}
use Rattle.positions.specs.Netted.{part_at}
use Rattle.positions.proofs.Finding.{sought_last}
use Rattle.positions.proofs.relation.find_part.Goals as goal

pub returns : goal.returns
returns g c =
    let p = part_at (table_of c.args.table.now) c.args.instrument c.args.maturity c.args.month in
    let items = vec_items c.args.table.now.contracts.rows in
    let found : MatchOption c.rposition.result ((k : ℕ) (x : Contract) → k < length items → p (listed (get_or items k x)) ≡ false) (λ i. (i < length items) × ((x : Contract) → p (listed (get_or items i x)) ≡ true) × ((k : ℕ) (x : Contract) → i < k → k < length items → p (listed (get_or items k x)) ≡ false)) = search rules in
    sought_last p items c.rposition.result found
