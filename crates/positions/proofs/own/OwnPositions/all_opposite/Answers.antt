use Rattle.std.proofs.Common.{◌≡◌, ℕ, ◌&&◌, vec_items, refl, ◌∙◌, rules}
use Rattle.std.proofs.lemmas.Iterator.{YieldsList-from_slice}
use Rattle.std.proofs.lemmas.Iterator.Search.{all_from_yields_List}
use Rattle.std.proofs.lemmas.List.Recursion.{same_from_clauses}
use Rattle.std.specs.List.{list_all}
use Rattle.positions.specs.Net.{placed, opposite, all_opposite}
use Rattle.positions.proofs.own.OwnPositions.all_opposite.Goals as goal

pub returns : goal.returns
returns c =
    let p = placed (vec_items c.args.self.now.positions) in
    let test = λ (o : ℕ). opposite c.args.a (p o) in
    let all : c.all.result ≡ list_all test c.args.others.now = all_from_yields_List test _ _ _ c.all.ensures.ran (YieldsList-from_slice c.args.others.now cc) (λ x b q k. search rules) in
    all ∙ same_from_clauses (list_all test) (all_opposite p c.args.a) (λ o r. test o && r) refl (λ _ _. refl) (λ _ _. refl) c.args.others.now
