use Rattle.std.proofs.Common.{◌≡◌, vec_items, Bor, refl, ap, ◌∙◌, rules}
use Rattle.std.specs.List.{find}
use Rattle.std.specs.Option.{option_map}
use Rattle.std.proofs.lemmas.Iterator.{YieldsList-from_slice}
use Rattle.std.proofs.lemmas.Iterator.Search.{find_from_yields_List}
use Rattle.contracts.specs.Seen.{seen}
use Rattle.tariff.specs.Rows.{rated}
use Rattle.tariff.specs.Rules.{same_line}
use Rattle.tariff.specs.Said.{Rated}
use Rattle.tariff.specs.declared.rows.RiskLine.{RiskLine}
use Rattle.tariff.proofs.Same.{same_seen}
use Rattle.tariff.proofs.Walks.{find_seen, mapped_twice}
use Rattle.tariff.proofs.draft.Draft.risk_of.Goals as goal

pub returns : goal.returns
returns g c =
    let date = c.args.self.now.contracts.date.number in
    let test = λ (r : RiskLine). same_line (seen date r.line) (seen date c.args.line) in
    let now = λ (r : Bor RiskLine). r.now in
    let risk = λ (r : RiskLine). r.risk in
    let found : option_map now c.find.result ≡ find test c.deref.result.now = find_from_yields_List test _ _ c.find.result c.find.ensures.ran (YieldsList-from_slice c.deref.result.now cc) (λ x b q k. search (rules, same_seen)) in
    let mapped : c.map.result ≡ option_map (λ (r : Bor RiskLine). r.now.risk) c.find.result = search rules in
    mapped ∙ mapped_twice now risk c.find.result ∙ ap (option_map risk) (found ∙ ap (find test) c.deref.ensures.value)
    ∙ mapped_twice (rated date) (λ (r : Rated). r.risk) (find test (vec_items c.args.self.now.risks.rows))
    ∙ ap (option_map (λ (r : Rated). r.risk)) (find_seen (rated date) test (λ r. same_line r.line (seen date c.args.line)) (λ _. refl) (vec_items c.args.self.now.risks.rows))
