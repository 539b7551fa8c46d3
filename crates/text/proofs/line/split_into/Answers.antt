use Rattle.std.proofs.Common.{eqb, map, ap, ◌∙◌, rules, tests}
use Rattle.std.proofs.lemmas.Iterator.Splits.{YieldsList-from_slice_split}
use Rattle.std.proofs.lemmas.Iterator.Consumers.{YieldsList-end}
use Rattle.text.specs.Fields.{piece_of}
use Rattle.text.proofs.Cuts.{words_are}
use Rattle.text.proofs.Spaces.{words_spaced}
use Rattle.text.proofs.line.split_into.Goals as goal

pub returns-in_err-push-clause-law : goal.returns-in_err-push-clause-law
returns-in_err-push-clause-law c = words_spaced c.args.line.now

pub returns : goal.returns
returns c =
    let line = c.args.line.now in
    let cut = YieldsList-from_slice_split _ (λ b. eqb b 32) line (search rules) (search rules) (search rules) (λ x b q k. search (rules, tests)) in
    let all = YieldsList-end cut c.loop-word.yielded _ c.loop-word.yielded_by _ _ c.in-None.is c.next.ensures.steps in
    record { value = c.loop-word.invariant ∙ ap (map piece_of) (all.0 ∙ words_are line); law = words_spaced line }
