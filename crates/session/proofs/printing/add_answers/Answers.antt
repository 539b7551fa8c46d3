use Rattle.std.proofs.Common.{ℕ, Ok, Result, refl, rules}
use Rattle.terms.specs.declared.refusal.Refusal.{Refusal}
use Rattle.session.specs.Texts.{line, answer_text}
use Rattle.books.proofs.Joining.{joined_at, joined_end}
use Rattle.session.proofs.printing.add_answers.Goals as goal

pub loop-answer-preserved : goal.loop-answer-preserved
loop-answer-preserved c = joined_at (λ (r : Result ℕ Refusal). line (answer_text r)) _ _ c.args.answers.now c.loop-answer.answer-index c.loop-answer.invariant (Ok 0) _ _ c.loop-answer-test.true refl (search rules)

pub returns : goal.returns
returns c = joined_end (λ (r : Result ℕ Refusal). line (answer_text r)) _ _ c.args.answers.now c.loop-answer.answer-index c.loop-answer.invariant c.loop-answer-test.false
