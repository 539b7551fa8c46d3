use Rattle.std.proofs.Common.{◌≡◌, eqb, vec_items, Bor, refl, ap, ◌∙◌, rules}
use Rattle.std.specs.List.{find}
use Rattle.std.specs.Option.{option_map}
use Rattle.std.proofs.lemmas.Iterator.{YieldsList-from_slice}
use Rattle.std.proofs.lemmas.Iterator.Search.{find_from_yields_List}
use Rattle.tariff.specs.Rows.{ranged}
use Rattle.tariff.specs.declared.rows.GroupRange.{GroupRange}
use Rattle.tariff.proofs.Walks.{find_seen}
use Rattle.tariff.proofs.draft.Draft.range_of.Goals as goal

pub returns : goal.returns
returns g c =
    let test = λ (r : GroupRange). eqb r.group c.args.group in
    let now = λ (r : Bor GroupRange). r.now in
    let found : option_map now c.find.result ≡ find test c.deref.result.now = find_from_yields_List test _ _ c.find.result c.find.ensures.ran (YieldsList-from_slice c.deref.result.now cc) (λ x b q k. search rules) in
    let given : c.copied.result ≡ option_map now c.find.result = search rules in
    ap (option_map ranged) (given ∙ found ∙ ap (find test) c.deref.ensures.value)
    ∙ find_seen ranged test (λ r. eqb r.group c.args.group) (λ _. refl) (vec_items c.args.self.now.ranges.rows)
