-- What the entries that stand come to after a call.
use Rattle.std.proofs.Common.{◌≡◌, ℕ, zero, suc, ◌-◌, ◌<◌, Bool, true, false, cond, ◌&&◌, eqb, List, [], ◌∷◌, ◌++◌, length, get_or, set, ℤ, refl, ap, ◌∙◌, ap₂, arith}
use Rattle.std.proofs.lemmas.Int.{ints}
use Rattle.std.proofs.lemmas.Bool.{not-false}
use Rattle.terms.specs.Amounts.{no_amount, amount_plus, amount_minus}
use Rattle.terms.specs.declared.amounts.Amount.{Amount}
use Rattle.books.specs.declared.entry.Call.{Call}
use Rattle.books.specs.declared.entry.Call.TheVariants.{Enter, Cancel, Transfer, LimitMember, LimitAgents}
use Rattle.books.specs.declared.entry.Entry.{Entry}
use Rattle.books.specs.Answers.{entry_at, taken, no_standing_entry}
use Rattle.books.specs.Journal.{blank, amount_of, counts, standing, entered, cancelled, moved}
use Rattle.books.specs.Shifts.{shift_of, shifts}
use Rattle.books.specs.State.{State}

pub amount_ext : (x y : Amount) → x.quantity ≡ y.quantity → x.value ≡ y.value → x ≡ y
amount_ext x y p q = ap₂ (λ (u v : ℤ). record { quantity = u; value = v }) p q

-- what one entry comes to
abbrev pub part : ℕ → ℕ → Entry → Amount
part a c e = cond (counts a c e) (amount_of e.trade) no_amount

standing_push : (es : List Entry) (e : Entry) (a c : ℕ) → standing (es ++ e ∷ []) a c ≡ amount_plus (standing es a c) (part a c e)
standing_push [] e a c = amount_ext _ _ (omega (arith, ints)) (omega (arith, ints))
standing_push (x ∷ es) e a c =
    let ih = standing_push es e a c in
    let q = ap (λ (z : Amount). z.quantity) ih in
    let v = ap (λ (z : Amount). z.value) ih in
    amount_ext _ _ (omega (arith, ints, q)) (omega (arith, ints, v))

standing_set : (es : List Entry) (k : ℕ) (e : Entry) (a c : ℕ) → k < length es → standing (set es k e) a c ≡ amount_plus (standing es a c) (amount_plus (part a c e) (amount_minus (part a c (get_or es k blank))))
standing_set [] k e a c h = absurd (omega arith)
standing_set (x ∷ es) zero e a c h = amount_ext _ _ (omega (arith, ints)) (omega (arith, ints))
standing_set (x ∷ es) (suc k) e a c h =
    let ih = standing_set es k e a c (omega arith) in
    let q = ap (λ (z : Amount). z.quantity) ih in
    let v = ap (λ (z : Amount). z.value) ih in
    amount_ext _ _ (omega (arith, ints, q)) (omega (arith, ints, v))

-- an entry that is not in the journal does not stand
stands_within : (es : List Entry) (k : ℕ) → (get_or es k blank).stands ≡ true → k < length es
stands_within [] k h = absurd (let z : ◌≡◌ {A = ℕ} 0 1 = cc in omega arith)
stands_within (x ∷ es) zero h = omega arith
stands_within (x ∷ es) (suc k) h = omega (arith, stands_within es k h)

-- ---- one entry more, one less, one moved
into : (x : Amount) (p q : Bool) → cond (p && q) x no_amount ≡ cond q (amount_plus (cond p x no_amount) no_amount) no_amount
into x true true = amount_ext _ _ (omega (arith, ints)) (omega (arith, ints))
into x false true = amount_ext _ _ (omega (arith, ints)) (omega (arith, ints))
into x true false = refl
into x false false = refl

out : (x : Amount) (p q : Bool) → amount_plus no_amount (amount_minus (cond (p && q) x no_amount)) ≡ cond q (amount_plus no_amount (cond p (amount_minus x) no_amount)) no_amount
out x true true = refl
out x false true = refl
out x true false = refl
out x false false = refl

across : (x : Amount) (p q r : Bool) → amount_plus (cond (p && q) x no_amount) (amount_minus (cond (r && q) x no_amount)) ≡ cond q (amount_plus (cond p x no_amount) (cond r (amount_minus x) no_amount)) no_amount
across x true true true = refl
across x true true false = refl
across x false true true = refl
across x false true false = refl
across x true false true = refl
across x true false false = refl
across x false false true = refl
across x false false false = refl

-- nothing moves
still : (x : Amount) (q : Bool) → x ≡ amount_plus x (cond q (amount_plus no_amount no_amount) no_amount)
still x true = amount_ext _ _ (omega (arith, ints)) (omega (arith, ints))
still x false = amount_ext _ _ (omega (arith, ints)) (omega (arith, ints))

on_part : (e : Entry) (a c : ℕ) → e.stands ≡ true → part a c e ≡ cond (eqb e.trade.account a && eqb e.trade.contract c) (amount_of e.trade) no_amount
on_part e a c h = ap (λ (b : Bool). cond (b && (eqb e.trade.account a && eqb e.trade.contract c)) (amount_of e.trade) no_amount) h

-- after a call whose entry stands, each account has what it had and what the call moves
pub after_call : (s : State) (call : Call) (a c : ℕ) → no_standing_entry s call ≡ false → standing (taken s call).journal a c ≡ amount_plus (standing s.journal a c) (shifts (shift_of s call) a c)
after_call s (Enter t) a c h = standing_push s.journal (entered t) a c ∙ ap (amount_plus (standing s.journal a c)) (into (amount_of t) (eqb t.account a) (eqb t.contract c))
after_call s (Cancel k) a c h =
    let e = entry_at s k in
    let on : e.stands ≡ true = not-false e.stands h in
    let x = standing s.journal a c in
    standing_set s.journal (k - 1) (cancelled e) a c (stands_within s.journal (k - 1) on)
    ∙ ap (λ (y : Amount). amount_plus x (amount_plus no_amount (amount_minus y))) (on_part e a c on)
    ∙ ap (amount_plus x) (out (amount_of e.trade) (eqb e.trade.account a) (eqb e.trade.contract c))
after_call s (Transfer k b) a c h =
    let e = entry_at s k in
    let on : e.stands ≡ true = not-false e.stands h in
    let x = standing s.journal a c in
    standing_set s.journal (k - 1) (moved b e) a c (stands_within s.journal (k - 1) on)
    ∙ ap₂ (λ (y z : Amount). amount_plus x (amount_plus y (amount_minus z))) (on_part (moved b e) a c on) (on_part e a c on)
    ∙ ap (amount_plus x) (across (amount_of e.trade) (eqb b a) (eqb e.trade.contract c) (eqb e.trade.account a))
after_call s (LimitMember d most) a c h = still (standing s.journal a c) (eqb d c)
after_call s (LimitAgents d most) a c h = still (standing s.journal a c) (eqb d c)
