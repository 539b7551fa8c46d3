use Rattle.std.proofs.Common.{◌≡◌, ◌++◌, string_bytes}
use Rattle.desk.proofs.Pairs.{pairs_rest}
use Rattle.std.specs.List.{zip}
use Rattle.desk.specs.Texts.{asked_lines}
use Rattle.desk.proofs.report.add_asked.Given as goal

abbrev pub invariant-loop-call : goal.invariant-loop-call
invariant-loop-call l = string_bytes l.text ++ asked_lines (pairs_rest l.call-iterator) ≡ string_bytes l.initial.text ++ asked_lines (zip l.calls l.answers)
