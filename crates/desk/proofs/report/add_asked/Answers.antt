use Rattle.std.proofs.Common.{ℕ, List, ◌++◌, string_bytes, Result, ap, ◌∙◌}
use Rattle.desk.proofs.Pairs.{pairs_rest, pairs_rest_more, pairs_rest_all}
use Rattle.std.specs.List.{zip}
use Rattle.std.specs.Slice.Iter.{iter_rest}
use Rattle.std.specs.Iterator.Adapters.{zip_first, zip_second}
use Rattle.terms.specs.declared.refusal.Refusal.{Refusal}
use Rattle.books.specs.declared.entry.Call.{Call}
use Rattle.desk.specs.Texts.{line, asked_text, asked_lines}
use Rattle.books.proofs.Joining.{joined_next, joined_last}
use Rattle.desk.proofs.report.add_asked.Goals as goal

abbrev line_of : Call × Result ℕ Refusal → List ℕ
line_of p = line (asked_text p.0 p.1)

pub loop-call-init : goal.loop-call-init
loop-call-init c =
    let first = ap (λ t. iter_rest (zip_first t)) c.into_iter-call-iterator.ensures.into_iter_gives ∙ ap iter_rest c.zip-call-items.ensures.first ∙ c.iter.ensures.rest in
    let second = ap (λ t. iter_rest (zip_second t)) c.into_iter-call-iterator.ensures.into_iter_gives ∙ ap iter_rest c.zip-call-items.ensures.second ∙ c.iter-2.ensures.rest in
    ap (λ (xs : List Call). string_bytes c.args.text.now ++ asked_lines (zip xs (iter_rest (zip_second c.into_iter-call-iterator.result)))) first
    ∙ ap (λ (ys : List (Result ℕ Refusal)). string_bytes c.args.text.now ++ asked_lines (zip c.args.calls.now ys)) second

pub loop-call-preserved : goal.loop-call-preserved
loop-call-preserved c =
    joined_next line_of _ _ (pairs_rest c.loop-call.call-iterator) (pairs_rest c.next.new.self) (c.in-Some.call.now, c.in-Some.answer.now) _ c.loop-call.invariant
    (pairs_rest_more c.loop-call.call-iterator c.next.new.self _ _ c.in-Some.is c.next.ensures.steps)
    c.in_ok-writeln.ensures.bytes

pub returns : goal.returns
returns c = joined_last line_of _ _ (pairs_rest c.loop-call.call-iterator) c.loop-call.invariant (pairs_rest_all c.loop-call.call-iterator c.next.new.self _ c.in-None.is c.next.ensures.steps)
