-- What a table book keeps to.
use Rattle.std.proofs.Common.{◌≡◌, ℕ, zero, suc, ◌<◌, Bool, true, false, cond, not, ◌&&◌, ◌||◌, List, [], ◌∷◌, length, get_or, take, ℤ, pos, ◌+ℤ◌, Ok, Err, vec_items, sym, refl, ap, ◌∙◌, ap₂, arith}
use Rattle.std.proofs.lemmas.List.{get_or-take, length-take-le}
use Rattle.std.proofs.lemmas.Bool.{eq-eqb, or_right}
use Rattle.terms.specs.declared.amounts.Amount.{Amount}
use Rattle.terms.specs.declared.refusal.Refusal.TheVariants.{NotInBook}
use Rattle.days.specs.declared.day.Day.{Day}
use Rattle.books.specs.Answers.{held_shown, taken, changed, any_unfit, out_of_range, not_in_book, registration_over, journal_full}
use Rattle.books.specs.Journal.{blank, standing}
use Rattle.books.specs.Limits.{is_of, held_by, held, net}
use Rattle.books.specs.Shifts.{Movement, shift_by, entry_for}
use Rattle.books.specs.State.{State, is_account, is_listing}
use Rattle.books.specs.declared.entry.Account.{Account}
use Rattle.books.specs.declared.entry.Call.{Call}
use Rattle.books.specs.declared.entry.Entry.{Entry}
use Rattle.books.specs.declared.entry.Listing.{Listing}
use Rattle.books.specs.declared.entry.Whose.{Whose}
use Rattle.ledger.specs.Asked.{missing, own}
use Rattle.ledger.specs.Meaning.{state_by, state_of}
use Rattle.ledger.specs.Places.{amount_at, openings}
use Rattle.ledger.specs.Views.{opening, traded, is_in, bears, Kept, net_of, held_in}
use Rattle.ledger.proofs.Conditions.{missing_is, own_is, unfit, Sound}
use Rattle.ledger.specs.declared.table_book.TableBook.{TableBook}
use Rattle.ledger.specs.declared.tables.Tables.{Tables}

module _ (b : TableBook) where
  abbrev pub entries_of : List Entry
  entries_of = take b.used b.journal.now

  pub tied_of : (a c : ℕ) → is_in b.tables a c ≡ true → traded b.tables a c ≡ standing entries_of a c
  tied_of a c h = b.tied a c h

  pub length_of : length entries_of ≡ b.used
  length_of = length-take-le b.used b.journal.now (omega (arith, b.fits, b.long))

  pub stands_below : (k : ℕ) → (get_or entries_of k blank).stands ≡ true → k < b.used
  stands_below k h = omega (arith, within entries_of k h, length_of)
    where
      within : (es : List Entry) (k : ℕ) → (get_or es k blank).stands ≡ true → k < length es
      within [] k h = absurd (let z : ◌≡◌ {A = ℕ} 0 1 = cc in omega arith)
      within (x ∷ es) zero h = omega arith
      within (x ∷ es) (suc k) h = omega (arith, within es k h)

  pub at_entry : (k : ℕ) → k < b.used → get_or entries_of k blank ≡ get_or b.journal.now k blank
  at_entry k h = get_or-take b.used b.journal.now k blank h

  pub listed_of : (k : ℕ) → (get_or entries_of k blank).stands ≡ true → is_in b.tables (get_or entries_of k blank).trade.account (get_or entries_of k blank).trade.contract ≡ true
  listed_of k h = ap (λ (e : Entry). is_in b.tables e.trade.account e.trade.contract) (at_entry k (stands_below k h)) ∙ b.listed k (stands_below k h)

-- the state does not look at what was traded
pub state_kept : (t u : Tables) (es : List Entry) → Kept t u → state_by u es ≡ state_by t es
state_kept t u es k =
    ap₂ (λ (d : Day) (xs : List Account). record { date = d.number; accounts = xs; listings = vec_items u.listings; opening = amount_at xs (vec_items u.listings) (openings (vec_items u.cells)); journal = es; layers = [] }) k.date (ap vec_items k.accounts)
    ∙ ap₂ (λ (cs : List Listing) (os : List Amount). record { date = t.date.number; accounts = vec_items t.accounts; listings = cs; opening = amount_at (vec_items t.accounts) cs os; journal = es; layers = [] }) (ap vec_items k.listings) k.opening

-- ---- what a call is answered
pub sound_of : (s : State) (call : Call) (e : Entry) → false ≡ out_of_range call → false ≡ not_in_book s call → false ≡ registration_over s call → false ≡ journal_full s call → e ≡ entry_for s call → false ≡ missing call e → false ≡ own call e → Sound s call
sound_of s call e a b c d same f g = record {
  range = sym a;
  book = sym b;
  registration = sym c;
  room = sym d;
  stands = sym (f ∙ ap (missing call) same ∙ missing_is s call);
  other = sym (g ∙ ap (own call) same ∙ own_is s call);
}

pub unfit_of : (b : TableBook) (call : Call) (e : Entry) (h : Movement) → Sound (state_of b) call → e ≡ entry_for (state_of b) call → h ≡ shift_by e call → any_unfit (taken (state_of b) call) (changed (state_of b) call) ≡ not (bears b.tables h)
unfit_of b call e h f same moved =
    unfit b.tables (entries_of b) (tied_of b) call f.book f.stands f.other (listed_of b)
    ∙ ap (λ (x : Movement). not (bears b.tables x)) (sym (moved ∙ ap (λ (y : Entry). shift_by y call) same))

-- ---- sums
held_same : (w : Whose) (n m : ℕ → ℤ) (xs : List Account) → ((a : ℕ) → is_account a xs ≡ true → n a ≡ m a) → held_by w n xs ≡ held_by w m xs
held_same w n m [] f = refl
held_same w n m (x ∷ xs) f =
    ap₂ (λ (y z : ℤ). cond (is_of w x) y (pos 0) +ℤ z)
    (f x.number (ap (λ (b : Bool). b || is_account x.number xs) (eq-eqb x.number x.number refl)))
    (held_same w n m xs (λ a h. f a (or_right _ _ h)))

-- by the cells as by the journal
pub held_of : (b : TableBook) (w : Whose) (c : ℕ) → held_in b.tables w c ≡ held_shown (state_of b) w c
held_of b w c = by (is_listing c (vec_items b.tables.listings)) refl
  where
    by : (p : Bool) → is_listing c (vec_items b.tables.listings) ≡ p → held_in b.tables w c ≡ held_shown (state_of b) w c
    by true h = ap (λ (z : ℤ). cond (is_listing c (vec_items b.tables.listings)) (Ok z) (Err NotInBook)) (held_same w (λ a. net_of b.tables a c) (λ a. net (state_of b) a c) (vec_items b.tables.accounts) (λ a k. ap (λ (x : Amount). (opening b.tables a c).quantity +ℤ x.quantity) (tied_of b a c (ap₂ ◌&&◌ k h))))
    by false h = ap (λ (p : Bool). cond p (Ok (held_by w (λ a. net_of b.tables a c) (vec_items b.tables.accounts))) (Err NotInBook)) h ∙ sym (ap (λ (p : Bool). cond p (Ok (held (state_of b) w c)) (Err NotInBook)) h)
