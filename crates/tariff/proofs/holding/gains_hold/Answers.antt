use Rattle.std.proofs.Common.{◌≡◌, eqb, length, sym, ◌∙◌, rules}
use Rattle.std.specs.List.{list_all}
use Rattle.std.proofs.lemmas.Bool.{eq-eqb}
use Rattle.std.proofs.lemmas.Iterator.{YieldsList-from_slice}
use Rattle.std.proofs.lemmas.Iterator.Search.{all_from_yields_List}
use Rattle.terms.specs.Ranges.{holds_in}
use Rattle.terms.specs.declared.bounds.Bounds.TheVariants.{Gain}
use Rattle.tariff.proofs.Walks.{true_and}
use Rattle.tariff.proofs.holding.gains_hold.Goals as goal

pub returns : goal.returns
returns c =
    let xs = c.args.gains.each in
    let long : length xs ≡ 16 = search rules in
    let all : c.all.result ≡ list_all (holds_in Gain) xs = all_from_yields_List (holds_in Gain) _ _ c.all.result c.all.ensures.ran (YieldsList-from_slice xs cc) (λ x b q k. search rules) in
    all ∙ sym (true_and (eqb (length xs) 16) _ (eq-eqb (length xs) 16 long))
