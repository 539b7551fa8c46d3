use Rattle.std.proofs.Common.{◌≡◌, eqb, None, sym, ◌∙◌, rules, tests}
use Rattle.std.specs.List.{position}
use Rattle.std.proofs.lemmas.Iterator.{YieldsList-from_slice}
use Rattle.std.proofs.lemmas.Iterator.Search.{position_from_yields_List}
use Rattle.text.specs.Lines.{bytes_in}
use Rattle.text.proofs.Cuts.{line_none, line_some}
use Rattle.text.proofs.Spaces.{line_cut}
use Rattle.text.proofs.line.next_line.Goals as goal

pub returns-in_err-end : goal.returns-in_err-end
returns-in_err-end c =
    let bs = c.args.bytes.now in
    let at : c.position.result ≡ position (λ b. eqb b 10) bs = position_from_yields_List (λ b. eqb b 10) _ _ _ c.position.ensures.ran (YieldsList-from_slice bs cc) (λ x b q k. search (rules, tests)) in
    let none : bytes_in c.from_residual.result ≡ None = search rules in
    let e = none ∙ line_none bs (sym at ∙ c.in_err-end.was) in
    record { value = e; law = line_cut bs _ e }

pub returns : goal.returns
returns c =
    let bs = c.args.bytes.now in
    let at : c.position.result ≡ position (λ b. eqb b 10) bs = position_from_yields_List (λ b. eqb b 10) _ _ _ c.position.ensures.ran (YieldsList-from_slice bs cc) (λ x b q k. search (rules, tests)) in
    let e = line_some bs c.in_ok-end.end (sym at ∙ c.in_ok-end.was) in
    record { value = e; law = line_cut bs _ e }
