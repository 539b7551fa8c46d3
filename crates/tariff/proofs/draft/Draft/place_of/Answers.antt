use Rattle.std.proofs.Common.{◌≡◌, ℕ, cond, eqb, ltb, length, map, Some, None, vec_items, sym, refl, ap, ◌∙◌, rules, arith}
use Rattle.std.specs.List.{position_or_len}
use Rattle.std.proofs.lemmas.Iterator.{YieldsList-from_slice}
use Rattle.std.proofs.lemmas.Iterator.Search.{position_from_yields_List}
use Rattle.std.proofs.lemmas.List.{length-map}
use Rattle.std.proofs.lemmas.List.Recursion.{is_position_or_len}
use Rattle.contracts.specs.Rows.{listed}
use Rattle.contracts.specs.declared.contract.Contract.{Contract}
use Rattle.tariff.specs.Rules.{place_of}
use Rattle.tariff.proofs.draft.Draft.place_of.Goals as goal

pub returns : goal.returns
returns g c =
    let n = c.args.number in
    let items = vec_items c.args.self.now.contracts.contracts.rows in
    let test = λ (x : Contract). eqb x.terms.number n in
    let place = λ (p k : ℕ). cond (ltb p k) (Some p) None in
    let found : c.position.result ≡ place (position_or_len test c.deref.result.now) (length c.deref.result.now) = position_from_yields_List test _ _ c.position.result c.position.ensures.ran (YieldsList-from_slice c.deref.result.now cc) (λ x b q k. search rules) in
    let same : place_of n (map listed items) ≡ position_or_len test items = is_position_or_len (λ cs. place_of n (map listed cs)) test refl (λ x xs. ap (cond (test x) 0) (omega arith)) items in
    found
    ∙ ap (λ xs. place (position_or_len test xs) (length xs)) c.deref.ensures.value
    ∙ ap (λ p. place p (length items)) (sym same) ∙ ap (place (place_of n (map listed items))) (sym (length-map items listed))
