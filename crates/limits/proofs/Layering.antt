-- The book under a layer answers as the layer over the book does.
use Rattle.std.proofs.Common.{◌≡◌, ℕ, ◌-◌, ◌<◌, Bool, true, false, cond, ◌&&◌, ◌||◌, ltb, leb, List, [], ◌∷◌, length, get_or, pos, is_ok, Some, None, Ok, Err, Result, unwrap_or, sym, refl, ap, ◌∙◌, ap₂, inl, inr, arith}
use Rattle.std.proofs.lemmas.List.{get_or_past}
use Rattle.std.proofs.lemmas.Bool.{true≢false, and_parts, and_from, and_right, not-false, leb-true, le-leb, lt-leb, lt-ltb, cases_lt}
use Rattle.terms.specs.Ranges.{holds_in}
use Rattle.terms.specs.declared.bounds.Bounds.TheVariants as Bounds
use Rattle.terms.specs.declared.refusal.Refusal.{Refusal}
use Rattle.terms.specs.declared.refusal.Refusal.TheVariants.{OutOfRange, NotInBook, RegistrationOver, JournalFull, NoStandingEntry, OwnAccount, CellOutOfRange, OverLimit}
use Rattle.books.specs.declared.entry.Call.{Call}
use Rattle.books.specs.declared.entry.Call.TheVariants.{Enter, Cancel, Transfer, LimitMember, LimitAgents}
use Rattle.books.specs.Answers.{Place, taken, changed, any_unfit, any_over, out_of_range, not_in_book, registration_over, journal_full, no_standing_entry, own_account, entry_of, entry_at, entry_shown, within, answer}
use Rattle.books.specs.declared.entry.Entry.{Entry}
use Rattle.books.specs.Journal.{blank}
use Rattle.books.specs.Limits.{exceeds, any_exceeds}
use Rattle.books.specs.State.{State, Layer, Holding, Follows}
use Rattle.limits.specs.Layers.{layered, own_over, layer_answer}

-- ---- the layers below do not look at the layer above
exceeds_below : (ys : List Layer) (y z : Layer) (s s' : State) (a c : ℕ) → any_exceeds ys (layered y s) (layered z s') a c ≡ any_exceeds ys s s' a c
exceeds_below [] y z s s' a c = refl
exceeds_below (x ∷ ys) y z s s' a c = ap (λ (b : Bool). exceeds x s s' a c || b) (exceeds_below ys y z s s' a c)

or_turned : (a b c d : Bool) → ((a || b) || (c || d)) ≡ ((a || c) || (b || d))
or_turned true b c d = refl
or_turned false true true d = refl
or_turned false true false d = refl
or_turned false false c d = refl

over_layered : (y : Layer) (s s' : State) (ps : List Place) → any_over (layered y s) (layered y s') ps ≡ (own_over y s s' ps || any_over s s' ps)
over_layered y s s' [] = refl
over_layered y s s' (p ∷ ps) =
    let own = exceeds y s s' p.account p.contract in
    let below = any_exceeds s.layers s s' p.account p.contract in
    ap₂ (λ (b r : Bool). (own || b) || r) (exceeds_below s.layers y y s s' p.account p.contract) (over_layered y s s' ps)
    ∙ or_turned own below (own_over y s s' ps) (any_over s s' ps)

-- ---- the answer
-- the lowest refusal that holds, or the number
abbrev ranked : Bool → Bool → Bool → Bool → Bool → Bool → Bool → Bool → ℕ → Result ℕ Refusal
ranked range book registration full standing own cell over n =
    cond range (Err OutOfRange)
    (cond book (Err NotInBook)
    (cond registration (Err RegistrationOver)
    (cond full (Err JournalFull)
    (cond standing (Err NoStandingEntry)
    (cond own (Err OwnAccount)
    (cond cell (Err CellOutOfRange)
    (cond over (Err OverLimit)
    (Ok n))))))))

ranked_layer : (a b c d e f g o u : Bool) (n : ℕ) → ranked a b c d e f g (o || u) n ≡ layer_answer (ranked a b c d e f g u n) o
ranked_layer true b c d e f g o u n = refl
ranked_layer false true c d e f g o u n = refl
ranked_layer false false true d e f g o u n = refl
ranked_layer false false false true e f g o u n = refl
ranked_layer false false false false true f g o u n = refl
ranked_layer false false false false false true g o u n = refl
ranked_layer false false false false false false true o u n = refl
ranked_layer false false false false false false false true true n = refl
ranked_layer false false false false false false false true false n = refl
ranked_layer false false false false false false false false true n = refl
ranked_layer false false false false false false false false false n = refl

-- the conditions but the last do not look at layers
abbrev ranked_by : State → Call → Bool → Result ℕ Refusal
ranked_by s call over = ranked (out_of_range call) (not_in_book s call) (registration_over s call) (journal_full s call) (no_standing_entry s call) (own_account s call) (any_unfit (taken s call) (changed s call)) over (entry_of s call)

by_layer : (s : State) (call : Call) (o u over : Bool) → over ≡ (o || u) → ranked_by s call over ≡ layer_answer (ranked_by s call u) o
by_layer s call o u over e = ap (ranked_by s call) e ∙ ranked_layer (out_of_range call) (not_in_book s call) (registration_over s call) (journal_full s call) (no_standing_entry s call) (own_account s call) (any_unfit (taken s call) (changed s call)) o u (entry_of s call)

pub answer_layered : (y : Layer) (s : State) (call : Call) → answer (layered y s) call ≡ layer_answer (answer s call) (own_over y s (taken s call) (changed s call))
answer_layered y s (Enter t) = by_layer s (Enter t) _ _ _ (over_layered y s (taken s (Enter t)) (changed s (Enter t)))
answer_layered y s (Cancel k) = by_layer s (Cancel k) _ _ _ (over_layered y s (taken s (Cancel k)) (changed s (Cancel k)))
answer_layered y s (Transfer k a) = by_layer s (Transfer k a) _ _ _ (over_layered y s (taken s (Transfer k a)) (changed s (Transfer k a)))
answer_layered y s (LimitMember c most) = by_layer s (LimitMember c most) false false false refl
answer_layered y s (LimitAgents c most) = by_layer s (LimitAgents c most) false false false refl

-- what the book below answers, and whether the layer refuses, give the answer
pub layer_says : (y : Layer) (s : State) (call : Call) (r : Result ℕ Refusal) (over : Bool) → r ≡ answer s call → over ≡ own_over y s (taken s call) (changed s call) → layer_answer r over ≡ answer (layered y s) call
layer_says y s call r over e o = ap₂ layer_answer e o ∙ sym (answer_layered y s call)

pub ok_below : (r : Result ℕ Refusal) (over : Bool) (n : ℕ) → layer_answer r over ≡ Ok n → r ≡ Ok n
ok_below (Err e) over n h = h
ok_below (Ok m) true n h = absurd (let z : ◌≡◌ {A = ℕ} 0 1 = cc in omega arith)
ok_below (Ok m) false n h = h

-- the cells do not look at layers
pub follows_layered : (y : Layer) (h : Holding) (s : State) → Follows h s → Follows h (layered y s)
follows_layered y h s f = record { accounts = f.accounts; listings = f.listings; cells = f.cells; apart = f.apart }

pub follows_below : (y : Layer) (h : Holding) (s : State) → Follows h (layered y s) → Follows h s
follows_below y h s f = record { accounts = f.accounts; listings = f.listings; cells = f.cells; apart = f.apart }

ranked_ok : (a b c d e f g o : Bool) (n : ℕ) → is_ok (ranked a b c d e f g o n) ≡ true → (a ≡ false) × (b ≡ false) × (e ≡ false)
ranked_ok true b c d e f g o n h = absurd (true≢false (sym h))
ranked_ok false true c d e f g o n h = absurd (true≢false (sym h))
ranked_ok false false true d e f g o n h = absurd (true≢false (sym h))
ranked_ok false false false true e f g o n h = absurd (true≢false (sym h))
ranked_ok false false false false true f g o n h = absurd (true≢false (sym h))
ranked_ok false false false false false f g o n h = (refl, refl, refl)

-- a call that is taken is in range, of what the book has, and its entry stands
pub ok_conditions : (s : State) (call : Call) → is_ok (answer s call) ≡ true → (out_of_range call ≡ false) × (not_in_book s call ≡ false) × (no_standing_entry s call ≡ false)
ok_conditions s call h = ranked_ok (out_of_range call) (not_in_book s call) (registration_over s call) (journal_full s call) (no_standing_entry s call) (own_account s call) (any_unfit (taken s call) (changed s call)) (any_over s (taken s call) (changed s call)) (entry_of s call) h

-- the entry that the call is about, as the book shows it
shown_at : (es : List Entry) (k : ℕ) → 0 < k → unwrap_or (cond (ltb 0 k && leb k (length es)) (Some (get_or es (k - 1) blank)) None) blank ≡ get_or es (k - 1) blank
shown_at es k h = elim (cases_lt (length es) k) [
  | inl past ↦ ap (λ (b : Bool). unwrap_or (cond b (Some (get_or es (k - 1) blank)) None) blank) (and_right (ltb 0 k) (leb k (length es)) (lt-leb k (length es) past)) ∙ sym (get_or_past es (k - 1) blank (omega arith))
  | inr inside ↦ ap (λ (b : Bool). unwrap_or (cond b (Some (get_or es (k - 1) blank)) None) blank) (and_from (ltb 0 k) (leb k (length es)) (lt-ltb 0 k h) (le-leb k (length es) inside))
]

above_nought : (k : ℕ) → holds_in Bounds.Entry (pos k) ≡ true → 0 < k
above_nought k h = let p = and_parts (leb 1 k) (leb k 4096) h in omega (arith, leb-true 1 k p.0)

pub cancel_entry : (s : State) (k : ℕ) → is_ok (answer s (Cancel k)) ≡ true → unwrap_or (entry_shown s k) blank ≡ entry_at s k
cancel_entry s k h = shown_at s.journal k (above_nought k (not-false (within Bounds.Entry k) (ok_conditions s (Cancel k) h).0))

pub transfer_entry : (s : State) (k a : ℕ) → is_ok (answer s (Transfer k a)) ≡ true → unwrap_or (entry_shown s k) blank ≡ entry_at s k
transfer_entry s k a h = shown_at s.journal k (above_nought k (and_parts (within Bounds.Entry k) (within Bounds.Account a) (not-false _ (ok_conditions s (Transfer k a) h).0)).0)
