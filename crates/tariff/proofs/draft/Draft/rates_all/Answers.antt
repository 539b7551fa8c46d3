use Rattle.std.proofs.Common.{◌≡◌, refl, ◌∙◌, rules}
use Rattle.std.specs.List.{list_all}
use Rattle.std.proofs.lemmas.Iterator.{YieldsList-from_slice}
use Rattle.std.proofs.lemmas.Iterator.Search.{all_from_yields_List}
use Rattle.contracts.specs.Seen.{seen}
use Rattle.contracts.specs.declared.line.Line.{Line}
use Rattle.tariff.specs.Rules.{has_risk}
use Rattle.tariff.specs.Views.{said_of}
use Rattle.tariff.proofs.Walks.{all_seen}
use Rattle.tariff.proofs.draft.Draft.rates_all.Goals as goal

pub returns : goal.returns
returns g c =
    let d = c.args.self.now in
    let date = d.contracts.date.number in
    let lines = c.args.lines.now in
    let test = λ (l : Line). has_risk (said_of d).risks (seen date l) in
    let all : c.all.result ≡ list_all test lines = all_from_yields_List test _ _ c.all.result c.all.ensures.ran (YieldsList-from_slice lines cc) (λ x b q k. search rules) in
    all ∙ all_seen (seen date) test (has_risk (said_of d).risks) (λ _. refl) lines
