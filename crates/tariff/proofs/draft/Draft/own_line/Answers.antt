use Rattle.std.proofs.Common.{◌≡◌, ℕ, Bool, true, false, cond, Some, None, sym, refl, ap, ◌∙◌, ap₂}
use Rattle.std.specs.Bool.{then_some}
use Rattle.std.specs.Option.{option_map}
use Rattle.contracts.specs.Lines as spec
use Rattle.contracts.specs.Rows.{listed}
use Rattle.contracts.specs.Seen.{seen}
use Rattle.contracts.specs.Table.{nth, size}
use Rattle.contracts.specs.Views.{table_of}
use Rattle.contracts.specs.declared.line.Line.TheVariants.{Own}
use Rattle.tariff.specs.Rules.{place_of}
use Rattle.tariff.proofs.Naming.{own_past, own_by, place_none, place_some}
use Rattle.tariff.proofs.draft.Draft.own_line.Goals as goal

seen_some : (date : ℕ) (b : Bool) (i : ℕ) → option_map (seen date) (then_some b (Own i)) ≡ cond b (Some (spec.own i)) None
seen_some date true i = refl
seen_some date false i = refl

pub returns-in_err-place : goal.returns-in_err-place
returns-in_err-place g c =
    let t = table_of c.args.self.now.contracts in
    let p = place_of c.args.number t.contracts in
    rw c.from_residual.ensures (own_past t p (place_none p (size t) c.in_err-place.ensures))

pub returns : goal.returns
returns g c =
    let t = table_of c.args.self.now.contracts in
    let p = place_of c.args.number t.contracts in
    let i = c.in_ok-place.place in
    let there = place_some p (size t) i c.in_ok-place.ensures in
    ap (option_map (seen t.date)) c.then_some.ensures ∙ seen_some t.date c.has_line.result i
    ∙ ap₂ (λ (b : Bool) (k : ℕ). cond b (Some (spec.own k)) None) c.has_line.ensures there.1
    ∙ sym (own_by t p (listed c.in_ok-contract.contract) (c.in_ok-contract.ensures.row ∙ ap (nth t) there.1))
