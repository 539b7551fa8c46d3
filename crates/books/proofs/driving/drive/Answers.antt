use Rattle.std.proofs.Common.{vec_items, sym, ap, ◌∙◌, subst, arith}
use Rattle.books.specs.declared.entry.Call.{Call}
use Rattle.books.specs.declared.entry.Call.TheVariants.{Enter}
use Rattle.books.specs.Journal.{blank}
use Rattle.books.specs.Answers.{OpenedAlike}
use Rattle.books.specs.State.{State}
use Rattle.books.proofs.Runs.{run_alike, run_booked, driven_more, driven_all}
use Rattle.books.proofs.driving.drive.Goals as goal

pub loop-call-preserved : goal.loop-call-preserved
loop-call-preserved g c =
    let inv = c.loop-call.invariant in
    let d : Call = Enter blank.trade in
    let more = c.push_reserved.ensures.items in
    (driven_more _ _ _ c.args.calls.now _ _ c.loop-call.call-index d c.take.result c.loop-call-test.true inv.0 c.take.ensures.answer c.take.ensures.state more, c.take.ensures.follows, c.take.ensures.lent ∙ inv.2, omega (arith, inv.3), omega (arith, inv.4))

pub returns : goal.returns
returns g c =
    let inv = c.loop-call.invariant in
    let all = driven_all _ _ c.args.calls.now _ c.loop-call.call-index c.loop-call-test.false inv.0 in
    let s = g.B.Book.state c.args.book.now in
    record {
      answers = all.0;
      state = all.1;
      journal = ap (λ (t : State). t.journal) all.1 ∙ run_booked s c.args.calls.now (vec_items c.loop-call.answers);
      kept = subst (OpenedAlike s) (sym all.1) (run_alike s c.args.calls.now (vec_items c.loop-call.answers));
      follows = inv.1;
      lent = inv.2;
    }
