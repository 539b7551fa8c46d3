use Rattle.std.proofs.Common.{Ok, Err, refl, ap, ◌∙◌}
use Rattle.std.proofs.lemmas.Result.{err_from_is_err_and}
use Rattle.limits.specs.Layers.{layer_of}
use Rattle.limits.proofs.Layering.{layer_says}
use Rattle.limits.proofs.layer.ConcentrationLimitBook.may.Goals as goal

pub returns-in_err-number-clause-answer : goal.returns-in_err-number-clause-answer
returns-in_err-number-clause-answer g c =
    let s = g.B.Book.state c.args.self.now.below.now in
    let p = err_from_is_err_and c.from_residual.result c.from_residual.ensures.1 in
    p.1 ∙ ap Err p.2 ∙ layer_says (layer_of g.S.Summing.scope c.args.self.now.table s.listings) s c.args.call (Err c.in_err-number.field-0.0) _ c.in_err-number.ensures.answer refl

pub returns-then-exceeds-clause-answer : goal.returns-then-exceeds-clause-answer
returns-then-exceeds-clause-answer g c =
    let s = g.B.Book.state c.args.self.now.below.now in
    layer_says (layer_of g.S.Summing.scope c.args.self.now.table s.listings) s c.args.call (Ok c.in_ok-number.number) _ c.in_ok-number.ensures.answer c.if-exceeds.ensures

pub returns-clause-answer : goal.returns-clause-answer
returns-clause-answer g c =
    let s = g.B.Book.state c.args.self.now.below.now in
    layer_says (layer_of g.S.Summing.scope c.args.self.now.table s.listings) s c.args.call (Ok c.in_ok-number.number) _ c.in_ok-number.ensures.answer c.if-exceeds.ensures
