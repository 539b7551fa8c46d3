use Rattle.std.proofs.Common.{not, Ok, sym, ap, ◌∙◌}
use Rattle.books.specs.Shifts.{movement_of}
use Rattle.ledger.specs.Meaning.{state_of}
use Rattle.ledger.proofs.Conditions.{none_over_limit, answer_unfit, answer_fit}
use Rattle.ledger.proofs.OfBook.{entries_of, tied_of, sound_of, unfit_of}
use Rattle.ledger.proofs.table_book.TableBook.answer_to.Goals as goal

pub returns-then-not-bears : goal.returns-then-not-bears
returns-then-not-bears c =
    let b = c.args.self.now in
    let call = c.args.call in
    let e = c.entry_for-entry.result in
    let f = sound_of (state_of b) call e c.if-is_out_of_range.ensures c.if-is_unlisted.ensures c.if-is_registration_over.ensures c.if-is_full.ensures c.entry_for-entry.ensures c.if-is_missing.ensures c.if-is_own.ensures in
    sym (answer_unfit (state_of b) call f (unfit_of b call e (movement_of c.shift.result) f c.entry_for-entry.ensures c.shift.ensures ∙ ap not (sym c.if-not-bears.ensures)))

pub returns : goal.returns
returns c =
    let b = c.args.self.now in
    let call = c.args.call in
    let e = c.entry_for-entry.result in
    let f = sound_of (state_of b) call e c.if-is_out_of_range.ensures c.if-is_unlisted.ensures c.if-is_registration_over.ensures c.if-is_full.ensures c.entry_for-entry.ensures c.if-is_missing.ensures c.if-is_own.ensures in
    ap Ok c.number_for.ensures
    ∙ sym (answer_fit (state_of b) call f (unfit_of b call e (movement_of c.shift.result) f c.entry_for-entry.ensures c.shift.ensures ∙ ap not (sym c.if-not-bears.ensures)) (none_over_limit b.tables (entries_of b) (tied_of b) call))
