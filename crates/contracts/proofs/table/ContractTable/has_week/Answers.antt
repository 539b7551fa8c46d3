use Rattle.std.proofs.Common.{◌≡◌, ap, ◌∙◌, rules}
use Rattle.std.proofs.lemmas.Iterator.{YieldsList-from_slice}
use Rattle.std.proofs.lemmas.Iterator.Search.{any_from_yields_List}
use Rattle.std.specs.List.{list_any}
use Rattle.contracts.specs.Lines.{week_with}
use Rattle.contracts.specs.Rows.{listed}
use Rattle.contracts.specs.Views.{table_of}
use Rattle.contracts.specs.declared.contract.Contract.{Contract}
use Rattle.contracts.proofs.Searches.{any_row}
use Rattle.contracts.proofs.table.ContractTable.has_week.Goals as goal

pub returns : goal.returns
returns g c =
    let test = week_with (table_of c.args.self.now) c.args.instrument c.args.day.number in
    let row = λ (y : Contract). test (listed y) in
    let any : c.any.result ≡ list_any row c.deref.result.now = any_from_yields_List row _ _ _ c.any.ensures.ran (YieldsList-from_slice c.deref.result.now cc) (λ x b q k. search rules) in
    any ∙ ap (list_any row) c.deref.ensures.value ∙ any_row test _
