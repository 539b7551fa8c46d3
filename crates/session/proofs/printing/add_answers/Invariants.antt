use Rattle.std.proofs.Common.{◌≡◌, ◌++◌, drop, string_bytes}
use Rattle.session.specs.Texts.{answer_lines}
use Rattle.session.proofs.printing.add_answers.Given as goal

abbrev pub invariant-loop-answer : goal.invariant-loop-answer
invariant-loop-answer l = string_bytes l.text ++ answer_lines (drop l.answer-index l.answers) ≡ string_bytes l.initial.text ++ answer_lines l.answers
