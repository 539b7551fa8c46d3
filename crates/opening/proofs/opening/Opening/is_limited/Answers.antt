use Rattle.std.proofs.Common.{◌≡◌, eqb, ◌||◌, refl, rules, ap, ◌∙◌}
use Rattle.std.proofs.lemmas.Iterator.{YieldsList-from_slice}
use Rattle.std.proofs.lemmas.Iterator.Search.{any_from_yields_List}
use Rattle.std.proofs.lemmas.List.Recursion.{same_from_clauses}
use Rattle.std.specs.List.{list_any}
use Rattle.opening.specs.Rows.{is_limited}
use Rattle.opening.specs.declared.rows.Limit.{Limit}
use Rattle.opening.proofs.opening.Opening.is_limited.Goals as goal

pub returns : goal.returns
returns c =
    let test = λ (x : Limit). eqb x.contract c.args.contract in
    let h : c.any.result ≡ list_any test c.deref.result.now = any_from_yields_List test _ _ _ c.any.ensures.ran (YieldsList-from_slice c.deref.result.now cc) (λ x b q k. search rules) in
    h ∙ ap (list_any test) c.deref.ensures.value ∙ same_from_clauses (list_any test) (is_limited c.args.contract) (λ x r. test x || r) refl (λ _ _. refl) (λ _ _. refl) _
