use Rattle.std.proofs.Common.{◌≡◌, ◌-◌, true, ℤ, is_ok, refl, ap, ◌∙◌, ap₂, rules, w32, SFits}
use Rattle.std.proofs.lemmas.Bool.{not-false}
use Rattle.std.proofs.lemmas.Int.{to_z-of_z}
use Rattle.books.specs.Answers.{answer, entry_at}
use Rattle.books.specs.Journal.{cancelled, moved}
use Rattle.books.specs.Shifts.{entry_for}
use Rattle.books.specs.declared.entry.Call.TheVariants.{Cancel, Transfer}
use Rattle.ledger.specs.Meaning.{state_of}
use Rattle.ledger.proofs.Conditions.{allowed}
use Rattle.ledger.proofs.Taking.{in_use, rewritten}
use Rattle.ledger.proofs.book.TableBookBook.take.Goals as goal

pub write-requires-in-Cancel-clause-journal : goal.write-requires-in-Cancel-clause-journal
write-requires-in-Cancel-clause-journal c =
    let b = c.args.self.now in
    let n = c.in-Cancel.number in
    let e = c.entry_for-entry.result in
    let ok : is_ok (answer (state_of b) (Cancel n)) ≡ true = search rules in
    let low = in_use b n (not-false (entry_at (state_of b) n).stands (allowed (state_of b) (Cancel n) ok).0.stands) in
    rewritten b (n - 1) e (cancelled e) cancelled low (c.entry_for-entry.ensures ∙ ap (entry_for (state_of b)) c.in-Cancel.is) refl

pub write-requires-in-Transfer-clause-journal : goal.write-requires-in-Transfer-clause-journal
write-requires-in-Transfer-clause-journal c =
    let b = c.args.self.now in
    let n = c.in-Transfer.number in
    let a = c.in-Transfer.account in
    let e = c.entry_for-entry.result in
    let ok : is_ok (answer (state_of b) (Transfer n a)) ≡ true = search rules in
    let low = in_use b n (not-false (entry_at (state_of b) n).stands (allowed (state_of b) (Transfer n a) ok).0.stands) in
    let fq : SFits w32 e.trade.quantity = search rules in
    let fp : SFits w32 e.trade.price = search rules in
    let same = ap₂ (λ (q p : ℤ). record { trade = record { account = a; contract = e.trade.contract; quantity = q; price = p }; stands = e.stands }) (to_z-of_z w32 e.trade.quantity fq) (to_z-of_z w32 e.trade.price fp) in
    rewritten b (n - 1) e _ (moved a) low (c.entry_for-entry.ensures ∙ ap (entry_for (state_of b)) c.in-Transfer.is) same
