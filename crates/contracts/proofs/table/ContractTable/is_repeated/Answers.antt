use Rattle.std.proofs.Common.{◌≡◌, ap, ◌∙◌, rules}
use Rattle.std.proofs.lemmas.Iterator.{YieldsList-from_slice}
use Rattle.std.proofs.lemmas.Iterator.Search.{any_from_yields_List}
use Rattle.std.specs.List.{list_any}
use Rattle.contracts.specs.Rows.{listed, said_in}
use Rattle.contracts.specs.Rules.{same_key}
use Rattle.contracts.specs.declared.contract.Contract.{Contract}
use Rattle.contracts.proofs.Searches.{repeated_any}
use Rattle.contracts.proofs.table.ContractTable.is_repeated.Goals as goal

pub returns : goal.returns
returns g c =
    let same = λ (y : Contract). same_key (said_in c.args.terms) (listed y) in
    let any : c.any.result ≡ list_any same c.deref.result.now = any_from_yields_List same _ _ _ c.any.ensures.ran (YieldsList-from_slice c.deref.result.now cc) (λ x b q k. search rules) in
    any ∙ ap (list_any same) c.deref.ensures.value ∙ repeated_any (said_in c.args.terms) _
