use Rattle.std.proofs.Common.{sym, ◌∙◌}
use Rattle.books.specs.Answers.{answer}
use Rattle.limits.specs.Layers.{layer_of}
use Rattle.limits.proofs.Layering.{answer_layered, ok_below}
use Rattle.limits.proofs.layer.ConcentrationLimitBook.take.Goals as goal

pub returns-in-None-clause-answer : goal.returns-in-None-clause-answer
returns-in-None-clause-answer g c =
    let s = g.B.Book.state c.args.self.now.below.now in
    let call = c.args.call in
    let y = layer_of g.S.Summing.scope c.args.self.now.table s.listings in
    let may = c.in_ok-number.ensures.answer in
    c.take.ensures.answer ∙ ok_below (answer s call) _ c.in_ok-number.number (sym (answer_layered y s call) ∙ sym may) ∙ may
