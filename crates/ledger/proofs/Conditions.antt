-- What a call is answered, from the cells.
use Rattle.std.proofs.Common.{◌≡◌, ℕ, ◌-◌, Bool, true, false, cond, not, ◌&&◌, ◌||◌, eqb, List, [], ◌∷◌, get_or, is_ok, Ok, Err, vec_items, sym, refl, ap, ◌∙◌, ap₂, arith}
use Rattle.std.proofs.lemmas.Int.{ints}
use Rattle.std.proofs.lemmas.Bool.{cond-true, cond-false, and_parts, and_from, not-false, eq-eqb, ne_eqb, eqb-false}
use Rattle.terms.specs.Amounts.{no_amount, amount_plus, amount_minus}
use Rattle.terms.specs.declared.amounts.Amount.{Amount}
use Rattle.terms.specs.declared.refusal.Refusal.{Refusal}
use Rattle.terms.specs.declared.refusal.Refusal.TheVariants.{OutOfRange, NotInBook, RegistrationOver, JournalFull, NoStandingEntry, OwnAccount, CellOutOfRange, OverLimit}
use Rattle.books.proofs.Shifts.{amount_ext, after_call}
use Rattle.books.specs.Answers.{answer, taken, changed, Place, entry_of, out_of_range, not_in_book, registration_over, journal_full, no_standing_entry, own_account, is_unfit, any_unfit, any_over}
use Rattle.books.specs.Cells.{trades_within}
use Rattle.books.specs.Journal.{blank, amount_of, standing}
use Rattle.books.specs.Shifts.{shift_of, entry_for, shifts}
use Rattle.books.specs.State.{State, cell_of, is_account, is_listing}
use Rattle.books.specs.declared.entry.Call.{Call}
use Rattle.books.specs.declared.entry.Call.TheVariants.{Enter, Cancel, Transfer, LimitMember, LimitAgents}
use Rattle.books.specs.declared.entry.Entry.{Entry}
use Rattle.ledger.specs.Asked.{missing, own}
use Rattle.ledger.specs.Meaning.{state_by}
use Rattle.ledger.specs.Views.{opening, traded, is_in, bears_at, bears}
use Rattle.ledger.specs.declared.tables.Tables.{Tables}

-- ---- the entry that a call is about
pub missing_is : (s : State) (call : Call) → missing call (entry_for s call) ≡ no_standing_entry s call
missing_is s (Enter t) = refl
missing_is s (Cancel k) = refl
missing_is s (Transfer k a) = refl
missing_is s (LimitMember c most) = refl
missing_is s (LimitAgents c most) = refl

pub own_is : (s : State) (call : Call) → own call (entry_for s call) ≡ own_account s call
own_is s (Enter t) = refl
own_is s (Cancel k) = refl
own_is s (Transfer k a) = refl
own_is s (LimitMember c most) = refl
own_is s (LimitAgents c most) = refl

opening_stays : (s : State) (call : Call) (a c : ℕ) → (taken s call).opening a c ≡ s.opening a c
opening_stays s (Enter t) a c = refl
opening_stays s (Cancel k) a c = refl
opening_stays s (Transfer k b) a c = refl
opening_stays s (LimitMember d most) a c = refl
opening_stays s (LimitAgents d most) a c = refl

-- ---- what goes to a cell
into : (x : Amount) (p q : Bool) → p ≡ true → q ≡ true → cond q (amount_plus (cond p x no_amount) no_amount) no_amount ≡ x
into x p q h k = ap₂ (λ (u v : Bool). cond v (amount_plus (cond u x no_amount) no_amount) no_amount) h k ∙ amount_ext _ _ (omega (arith, ints)) (omega (arith, ints))

out : (x : Amount) (p q : Bool) → p ≡ true → q ≡ true → cond q (amount_plus no_amount (cond p x no_amount)) no_amount ≡ x
out x p q h k = ap₂ (λ (u v : Bool). cond v (amount_plus no_amount (cond u x no_amount)) no_amount) h k ∙ amount_ext _ _ (omega (arith, ints)) (omega (arith, ints))

-- ---- the cells that a call changes bear it, or one is out of its range
module _ (t : Tables) (es : List Entry) (tied : (a c : ℕ) → is_in t a c ≡ true → traded t a c ≡ standing es a c) where
  unfit_at : (call : Call) (a c : ℕ) (x : Amount) → no_standing_entry (state_by t es) call ≡ false → is_in t a c ≡ true → shifts (shift_of (state_by t es) call) a c ≡ x → is_unfit (cell_of (taken (state_by t es) call) a c) ≡ not (bears_at t a c x)
  unfit_at call a c x on listed moved =
      ap₂ (λ (o y : Amount). not (trades_within o y)) (opening_stays (state_by t es) call a c)
      (after_call (state_by t es) call a c on ∙ ap₂ amount_plus (sym (tied a c listed)) moved)
      ∙ ap (λ (b : Bool). not (cond b (trades_within (opening t a c) (amount_plus (traded t a c) x)) false)) (sym listed)

  pub unfit : (call : Call) → not_in_book (state_by t es) call ≡ false → no_standing_entry (state_by t es) call ≡ false → own_account (state_by t es) call ≡ false
      → ((k : ℕ) → (get_or es k blank).stands ≡ true → is_in t (get_or es k blank).trade.account (get_or es k blank).trade.contract ≡ true)
      → any_unfit (taken (state_by t es) call) (changed (state_by t es) call) ≡ not (bears t (shift_of (state_by t es) call))
  unfit (Enter u) here on own listed =
      let there = not-false (is_in t u.account u.contract) here in
      let e = unfit_at (Enter u) u.account u.contract (amount_of u) on there (into (amount_of u) _ _ (eq-eqb u.account u.account refl) (eq-eqb u.contract u.contract refl)) in
      ap (λ (b : Bool). b || false) e ∙ one (bears_at t u.account u.contract (amount_of u))
    where
      one : (b : Bool) → not b || false ≡ not (true && b)
      one true = refl
      one false = refl
  unfit (Cancel k) here on own listed =
      let e = get_or es (k - 1) blank in
      let x = amount_minus (amount_of e.trade) in
      let there = listed (k - 1) (not-false e.stands on) in
      let u = unfit_at (Cancel k) e.trade.account e.trade.contract x on there (out x _ _ (eq-eqb e.trade.account e.trade.account refl) (eq-eqb e.trade.contract e.trade.contract refl)) in
      ap (λ (b : Bool). b || false) u ∙ one (bears_at t e.trade.account e.trade.contract x)
    where
      one : (b : Bool) → not b || false ≡ not (b && true)
      one true = refl
      one false = refl
  unfit (Transfer k b) here on own listed =
      let e = get_or es (k - 1) blank in
      let a = e.trade.account in
      let c = e.trade.contract in
      let x = amount_of e.trade in
      let ne : a ≡ b → ⊥ = eqb-false a b own in
      let there = listed (k - 1) (not-false e.stands on) in
      let parts = and_parts (is_account a (vec_items t.accounts)) (is_listing c (vec_items t.listings)) there in
      let to = and_from (is_account b (vec_items t.accounts)) (is_listing c (vec_items t.listings)) (not-false (is_account b (vec_items t.accounts)) here) parts.1 in
      let u = unfit_at (Transfer k b) a c (amount_minus x) on there (leaves x (eqb b a) (eqb a a) (eqb c c) (ne_eqb b a (λ s. ne (sym s))) (eq-eqb a a refl) (eq-eqb c c refl)) in
      let v = unfit_at (Transfer k b) b c x on to (comes x (eqb b b) (eqb a b) (eqb c c) (eq-eqb b b refl) (ne_eqb a b ne) (eq-eqb c c refl)) in
      ap₂ (λ (p q : Bool). p || (q || false)) u v ∙ two (bears_at t a c (amount_minus x)) (bears_at t b c x)
    where
      two : (p q : Bool) → not p || (not q || false) ≡ not (p && q)
      two true true = refl
      two true false = refl
      two false q = refl

      leaves : (x : Amount) (p q r : Bool) → p ≡ false → q ≡ true → r ≡ true → cond r (amount_plus (cond p x no_amount) (cond q (amount_minus x) no_amount)) no_amount ≡ amount_minus x
      leaves x p q r h k l = ap (λ (z : Bool). cond r (amount_plus (cond z x no_amount) (cond q (amount_minus x) no_amount)) no_amount) h ∙ out (amount_minus x) q r k l

      comes : (x : Amount) (p q r : Bool) → p ≡ true → q ≡ false → r ≡ true → cond r (amount_plus (cond p x no_amount) (cond q (amount_minus x) no_amount)) no_amount ≡ x
      comes x p q r h k l = ap (λ (z : Bool). cond r (amount_plus (cond p x no_amount) (cond z (amount_minus x) no_amount)) no_amount) k ∙ into x p r h l
  unfit (LimitMember c most) here on own listed = refl
  unfit (LimitAgents c most) here on own listed = refl

  -- without limits no sum is over one
  none_over : (s' : State) (ps : List Place) → any_over (state_by t es) s' ps ≡ false
  none_over s' [] = refl
  none_over s' (p ∷ ps) = none_over s' ps

  pub none_over_limit : (call : Call) → any_over (state_by t es) (taken (state_by t es) call) (changed (state_by t es) call) ≡ false
  none_over_limit call = none_over (taken (state_by t es) call) (changed (state_by t es) call)

-- ---- one condition after another
-- no condition below the range of cells holds
pub record Sound (s : State) (call : Call) : Type 0 where
  pub range : out_of_range call ≡ false
  pub book : not_in_book s call ≡ false
  pub registration : registration_over s call ≡ false
  pub room : journal_full s call ≡ false
  pub stands : no_standing_entry s call ≡ false
  pub other : own_account s call ≡ false

pub answer_unfit : (s : State) (call : Call) → Sound s call → any_unfit (taken s call) (changed s call) ≡ true → answer s call ≡ Err CellOutOfRange
answer_unfit s call f u =
    cond-false (out_of_range call) _ _ f.range ∙ cond-false (not_in_book s call) _ _ f.book ∙ cond-false (registration_over s call) _ _ f.registration ∙ cond-false (journal_full s call) _ _ f.room
    ∙ cond-false (no_standing_entry s call) _ _ f.stands ∙ cond-false (own_account s call) _ _ f.other ∙ cond-true (any_unfit (taken s call) (changed s call)) _ _ u

pub answer_fit : (s : State) (call : Call) → Sound s call → any_unfit (taken s call) (changed s call) ≡ false → any_over s (taken s call) (changed s call) ≡ false → answer s call ≡ Ok (entry_of s call)
answer_fit s call f u v =
    cond-false (out_of_range call) _ _ f.range ∙ cond-false (not_in_book s call) _ _ f.book ∙ cond-false (registration_over s call) _ _ f.registration ∙ cond-false (journal_full s call) _ _ f.room
    ∙ cond-false (no_standing_entry s call) _ _ f.stands ∙ cond-false (own_account s call) _ _ f.other ∙ cond-false (any_unfit (taken s call) (changed s call)) _ _ u ∙ cond-false (any_over s (taken s call) (changed s call)) _ _ v

-- ---- what a call that is taken met
pub allowed : (s : State) (call : Call) → is_ok (answer s call) ≡ true → Sound s call × (any_unfit (taken s call) (changed s call) ≡ false)
allowed s call h =
    let f = met (out_of_range call) (not_in_book s call) (registration_over s call) (journal_full s call) (no_standing_entry s call) (own_account s call) (any_unfit (taken s call) (changed s call)) (any_over s (taken s call) (changed s call)) (entry_of s call) h in
    (record { range = f.0; book = f.1; registration = f.2; room = f.3; stands = f.4; other = f.5 }, f.6)
  where
    met : (a b c d e f g h : Bool) (n : ℕ)
        → is_ok {E = Refusal} (cond a (Err OutOfRange) (cond b (Err NotInBook) (cond c (Err RegistrationOver) (cond d (Err JournalFull) (cond e (Err NoStandingEntry) (cond f (Err OwnAccount) (cond g (Err CellOutOfRange) (cond h (Err OverLimit) (Ok n))))))))) ≡ true
        → (a ≡ false) × (b ≡ false) × (c ≡ false) × (d ≡ false) × (e ≡ false) × (f ≡ false) × (g ≡ false)
    met true b c d e f g h n ok = absurd (let z : ◌≡◌ {A = ℕ} 0 1 = cc in omega arith)
    met false true c d e f g h n ok = absurd (let z : ◌≡◌ {A = ℕ} 0 1 = cc in omega arith)
    met false false true d e f g h n ok = absurd (let z : ◌≡◌ {A = ℕ} 0 1 = cc in omega arith)
    met false false false true e f g h n ok = absurd (let z : ◌≡◌ {A = ℕ} 0 1 = cc in omega arith)
    met false false false false true f g h n ok = absurd (let z : ◌≡◌ {A = ℕ} 0 1 = cc in omega arith)
    met false false false false false true g h n ok = absurd (let z : ◌≡◌ {A = ℕ} 0 1 = cc in omega arith)
    met false false false false false false true h n ok = absurd (let z : ◌≡◌ {A = ℕ} 0 1 = cc in omega arith)
    met false false false false false false false h n ok = (refl, refl, refl, refl, refl, refl, refl)
