use Rattle.std.proofs.Common.{◌≡◌, ℕ, ◌+◌, ◌<◌, ◌≤◌, max, take, set, vec_items, ap₂, ◌∙◌, arith}
use Rattle.std.proofs.lemmas.List.{length-set}
use Rattle.books.specs.Answers.{taken}
use Rattle.books.specs.Shifts.{movement_of}
use Rattle.ledger.specs.Meaning.{state_of}
use Rattle.ledger.proofs.Taking.{applies, tied_after, state_after, by_journal, listed_set, listed_kept}
use Rattle.ledger.proofs.table_book.TableBook.write.Goals as goal

pub apply-requires-clause-bears : goal.apply-requires-clause-bears
apply-requires-clause-bears c = (applies c.args.self.now c.args.call c.requires.taken c.entry_for.result (movement_of c.shift-shift.result) c.entry_for.ensures c.shift-shift.ensures).bears

pub invariant_of-self : goal.invariant_of-self
invariant_of-self c =
    let b = c.args.self.now in
    let i = c.from.result in
    let m = c.max-self.result in
    let e = c.args.entry in
    let js = set b.journal.now i e in
    let u = c.apply.new.self in
    let kept = c.apply.ensures.kept in
    let journal : take m js ≡ (taken (state_of b) c.args.call).journal = ap₂ (λ (n k : ℕ). take n (set b.journal.now k e)) c.max-self.ensures c.from.ensures ∙ c.requires.journal in
    record {
      long = length-set b.journal.now i e ∙ b.long;
      fits = omega (arith, c.max-self.ensures, b.fits, c.requires.room);
      listed = listed_kept b.tables u m js kept (listed_set (vec_items b.tables.accounts) (vec_items b.tables.listings) b.used m i b.journal.now e b.listed c.requires.listed (omega (arith, c.from.ensures, c.requires.room, b.long)) (within b.used m i c.args.at c.max-self.ensures c.from.ensures c.requires.place));
      tied = tied_after b c.args.call c.requires.taken c.entry_for.result (movement_of c.shift-shift.result) c.entry_for.ensures c.shift-shift.ensures js m u kept c.apply.ensures.shifted journal;
    }
  where
    within : (n m i k : ℕ) → m ≡ max n (k + 1) → i ≡ k → k ≤ n → (j : ℕ) → j < m → (j ≡ i → ⊥) → j < n
    within n m i k e f h j l ne = omega arith

pub returns-clause-state : goal.returns-clause-state
returns-clause-state c =
    let b = c.args.self.now in
    let e = c.args.entry in
    let journal : take c.max-self.result (set b.journal.now c.from.result e) ≡ (taken (state_of b) c.args.call).journal = ap₂ (λ (n k : ℕ). take n (set b.journal.now k e)) c.max-self.ensures c.from.ensures ∙ c.requires.journal in
    state_after b c.args.call c.requires.taken c.entry_for.result (movement_of c.shift-shift.result) c.entry_for.ensures c.shift-shift.ensures (set b.journal.now c.from.result e) c.max-self.result c.apply.new.self c.apply.ensures.kept c.apply.ensures.shifted journal ∙ by_journal b c.args.call
