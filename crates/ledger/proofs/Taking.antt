-- A table book after a call that it took.
use Rattle.std.proofs.Common.{◌≡◌, ℕ, ◌+◌, ◌-◌, ◌<◌, true, false, ◌≢◌, List, length, get_or, max, take, set, is_ok, vec_items, sym, refl, ap, ◌∙◌, subst, ap₂, inl, inr, arith}
use lib.Seq.{take-set-lt}
use Rattle.std.proofs.lemmas.List.{get_or-set_same, get_or-set_other}
use Rattle.std.proofs.lemmas.Bool.{cases_eq, eqb-true, eqb-false, ne_eqb, not-false}
use Rattle.terms.specs.Amounts.{amount_plus}
use Rattle.books.proofs.Shifts.{after_call}
use Rattle.books.specs.Answers.{answer, taken, own_account, entry_at}
use Rattle.books.specs.Journal.{blank, standing}
use Rattle.books.specs.Shifts.{Movement, shift_by, shift_of, entry_for, is_at, shifts}
use Rattle.books.specs.State.{State}
use Rattle.books.specs.declared.entry.Account.{Account}
use Rattle.books.specs.declared.entry.Call.{Call}
use Rattle.books.specs.declared.entry.Call.TheVariants.{Enter, Cancel, Transfer, LimitMember, LimitAgents}
use Rattle.books.specs.declared.entry.Entry.{Entry}
use Rattle.books.specs.declared.entry.Listing.{Listing}
use Rattle.ledger.specs.Meaning.{state_by, state_of}
use Rattle.ledger.specs.Places.{is_listed, amount_at, trades, Shifted}
use Rattle.ledger.specs.Tied.{AllListed, Tied}
use Rattle.ledger.specs.Views.{is_in, bears, Kept}
use Rattle.ledger.specs.declared.table_book.TableBook.{TableBook}
use Rattle.ledger.specs.declared.tables.Tables.{Tables}
use Rattle.ledger.proofs.Conditions.{allowed}
use Rattle.ledger.proofs.OfBook.{entries_of, tied_of, stands_below, at_entry, state_kept, unfit_of}

-- ---- what a call that is taken moves
apart_of : (s : State) (call : Call) → own_account s call ≡ false → (a : ℕ) → is_at (shift_of s call).to a ≡ true → is_at (shift_of s call).from a ≡ false
apart_of s (Enter t) own a h = refl
apart_of s (Cancel k) own a h = absurd (let z : ◌≡◌ {A = ℕ} 0 1 = cc in omega arith)
apart_of s (Transfer k b) own a h = ne_eqb (entry_at s k).trade.account a (λ e. eqb-false (entry_at s k).trade.account b own (e ∙ sym (eqb-true b a h)))
apart_of s (LimitMember c most) own a h = refl
apart_of s (LimitAgents c most) own a h = refl

-- the shift can be applied
pub record Applies (t : Tables) (h : Movement) : Type 0 where
  pub bears : bears t h ≡ true
  pub apart : (a : ℕ) → is_at h.to a ≡ true → is_at h.from a ≡ false

module _ (b : TableBook) (call : Call) (ok : is_ok (answer (state_of b) call) ≡ true) (e : Entry) (h : Movement) (same : e ≡ entry_for (state_of b) call) (is : h ≡ shift_by e call) where
  is_shift : h ≡ shift_of (state_of b) call
  is_shift = is ∙ ap (λ (x : Entry). shift_by x call) same

  pub applies : Applies b.tables h
  applies =
      let f = allowed (state_of b) call ok in
      record {
        bears = not-false (bears b.tables h) (sym (unfit_of b call e h f.0 same is) ∙ f.1);
        apart = subst (λ (x : Movement). (a : ℕ) → is_at x.to a ≡ true → is_at x.from a ≡ false) (sym is_shift) (apart_of (state_of b) call f.0.other);
      }

  -- ---- the cells follow the journal
  module _ (js : List Entry) (used : ℕ) (u : Tables) (kept : Kept b.tables u) (shifted : Shifted (vec_items b.tables.accounts) (vec_items b.tables.listings) (shifts h) (trades (vec_items b.tables.cells)) (trades (vec_items u.cells))) (journal : take used js ≡ (taken (state_of b) call).journal) where
    tied_before : (a c : ℕ) → is_in b.tables a c ≡ true → amount_at (vec_items b.tables.accounts) (vec_items b.tables.listings) (trades (vec_items u.cells)) a c ≡ standing (take used js) a c
    tied_before a c l =
        shifted a c l
        ∙ ap₂ amount_plus (tied_of b a c l) (ap (λ (x : Movement). shifts x a c) is_shift)
        ∙ sym (after_call (state_of b) call a c (allowed (state_of b) call ok).0.stands)
        ∙ ap (λ (es : List Entry). standing es a c) (sym journal)

    pub tied_after : Tied (vec_items u.accounts) (vec_items u.listings) (vec_items u.cells) (take used js)
    tied_after =
        subst (λ (xs : List Account). (a c : ℕ) → is_listed xs (vec_items u.listings) a c ≡ true → amount_at xs (vec_items u.listings) (trades (vec_items u.cells)) a c ≡ standing (take used js) a c) (sym (ap vec_items kept.accounts))
        (subst (λ (cs : List Listing). (a c : ℕ) → is_listed (vec_items b.tables.accounts) cs a c ≡ true → amount_at (vec_items b.tables.accounts) cs (trades (vec_items u.cells)) a c ≡ standing (take used js) a c) (sym (ap vec_items kept.listings)) tied_before)

    pub state_after : state_by u (take used js) ≡ state_by b.tables (taken (state_of b) call).journal
    state_after = state_kept b.tables u (take used js) kept ∙ ap (state_by b.tables) journal

-- ---- the entries in use are listed
pub listed_set : (xs : List Account) (cs : List Listing) (n m k : ℕ) (js : List Entry) (e : Entry) → AllListed xs cs n js → is_listed xs cs e.trade.account e.trade.contract ≡ true → k < length js → ((i : ℕ) → i < m → i ≢ k → i < n) → AllListed xs cs m (set js k e)
listed_set xs cs n m k js e all here low f i h = elim (cases_eq i k) [
  | inl same ↦ ap (λ (x : Entry). is_listed xs cs x.trade.account x.trade.contract) (ap (λ j. get_or (set js k e) j blank) same ∙ get_or-set_same js k e blank low) ∙ here
  | inr ne ↦ ap (λ (x : Entry). is_listed xs cs x.trade.account x.trade.contract) (get_or-set_other js k i e blank ne) ∙ all i (f i h ne)
]

pub listed_kept : (t u : Tables) (n : ℕ) (js : List Entry) → Kept t u → AllListed (vec_items t.accounts) (vec_items t.listings) n js → AllListed (vec_items u.accounts) (vec_items u.listings) n js
listed_kept t u n js kept all =
    subst (λ (xs : List Account). AllListed xs (vec_items u.listings) n js) (sym (ap vec_items kept.accounts))
    (subst (λ (cs : List Listing). AllListed (vec_items t.accounts) cs n js) (sym (ap vec_items kept.listings)) all)

-- ---- the journal, written in place
pub set_journal : (b : TableBook) (k : ℕ) (f : Entry → Entry) → k < b.used → take b.used (set b.journal.now k (f (get_or b.journal.now k blank))) ≡ set (entries_of b) k (f (get_or (entries_of b) k blank))
set_journal b k f h = take-set-lt b.used b.journal.now k (f (get_or b.journal.now k blank)) h ∙ ap (λ (x : Entry). set (entries_of b) k (f x)) (sym (at_entry b k h))

-- one entry in use is another
pub rewritten : (b : TableBook) (k : ℕ) (e x : Entry) (f : Entry → Entry) → k < b.used → e ≡ get_or (entries_of b) k blank → x ≡ f e → take (max b.used (k + 1)) (set b.journal.now k x) ≡ set (entries_of b) k (f (get_or (entries_of b) k blank))
rewritten b k e x f low is new =
    let long : max b.used (k + 1) ≡ b.used = omega arith in
    ap₂ (λ (n : ℕ) (y : Entry). take n (set b.journal.now k y)) long (new ∙ ap f (is ∙ at_entry b k low)) ∙ set_journal b k f low

-- a call changes no more than the journal of a book without limits
pub by_journal : (b : TableBook) (call : Call) → state_by b.tables (taken (state_of b) call).journal ≡ taken (state_of b) call
by_journal b (Enter t) = refl
by_journal b (Cancel k) = refl
by_journal b (Transfer k a) = refl
by_journal b (LimitMember c most) = refl
by_journal b (LimitAgents c most) = refl

-- the entry of a cancellation or a transfer is in use
pub in_use : (b : TableBook) (k : ℕ) → (entry_at (state_of b) k).stands ≡ true → k - 1 < b.used
in_use b k on = stands_below b (k - 1) on
