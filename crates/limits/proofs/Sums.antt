-- What a call does to the sums of net positions.
use Rattle.std.proofs.Common.{◌≡◌, ℕ, Bool, true, false, cond, not, ◌||◌, eqb, List, [], ◌∷◌, ℤ, pos, ◌+ℤ◌, neg_ℤ, Some, None, Option, sym, refl, ap, ◌∙◌, ap₂, arith}
use Rattle.std.specs.List.{find}
use Rattle.std.proofs.Math.Bool.{or-false}
use Rattle.std.proofs.lemmas.Int.{ints}
use Rattle.std.proofs.lemmas.Bool.{eqb-true, eqb-false, eq-eqb, ne_eqb, and_parts, or_parts, not-true}
use Rattle.terms.specs.Amounts.{no_amount, amount_plus, amount_minus}
use Rattle.terms.specs.declared.amounts.Amount.{Amount}
use Rattle.books.specs.declared.entry.Account.{Account}
use Rattle.books.specs.declared.entry.Call.{Call}
use Rattle.books.specs.declared.entry.Call.TheVariants.{Enter, Cancel, Transfer, LimitMember, LimitAgents}
use Rattle.books.specs.declared.entry.Scope.{Scope}
use Rattle.books.specs.declared.entry.Whose.{Whose}
use Rattle.books.specs.Answers.{entry_at, taken, changed, no_standing_entry}
use Rattle.books.specs.Limits.{net, is_of, held_by, held, sum_of, grows, exceeds}
use Rattle.books.specs.Shifts.{Movement, shift_of, is_at, shifts}
use Rattle.books.specs.State.{State, Layer, is_account, are_apart}
use Rattle.books.proofs.Shifts.{after_call}
use Rattle.limits.specs.Layers.{own_over}
use Rattle.limits.specs.Sums.{is_part, belongs, change, held_after, limit_of, over_at, over_by}

-- ---- sums are linear
held_plus : (w : Whose) (n m d : ℕ → ℤ) (xs : List Account) → ((a : ℕ) → n a ≡ m a +ℤ d a) → held_by w n xs ≡ held_by w m xs +ℤ held_by w d xs
held_plus w n m d [] e = refl
held_plus w n m d (x ∷ xs) e =
    let ih = held_plus w n m d xs e in
    let here = e x.number in
    elim (is_of w x) as (λ b. cond b (n x.number) (pos 0) +ℤ held_by w n xs ≡ (cond b (m x.number) (pos 0) +ℤ held_by w m xs) +ℤ (cond b (d x.number) (pos 0) +ℤ held_by w d xs)) [ true ↦ omega (arith, ints, ih, here) | false ↦ omega (arith, ints, ih) ]

held_none : (w : Whose) (xs : List Account) → held_by w (λ a. pos 0) xs ≡ pos 0
held_none w [] = refl
held_none w (x ∷ xs) = elim (is_of w x) as (λ b. cond b (pos 0) (pos 0) +ℤ held_by w (λ a. pos 0) xs ≡ pos 0) [ true ↦ omega (arith, ints, held_none w xs) | false ↦ omega (arith, ints, held_none w xs) ]

eqb_turned : (a b : ℕ) (t : Bool) → eqb a b ≡ t → eqb b a ≡ t
eqb_turned a b true h = eq-eqb b a (sym (eqb-true a b h))
eqb_turned a b false h = ne_eqb b a (λ e. eqb-false a b h (sym e))

-- what one account has counts where it is, and nowhere else
absent : (w : Whose) (b : ℕ) (q : ℤ) (xs : List Account) → is_account b xs ≡ false → held_by w (λ a. cond (eqb b a) q (pos 0)) xs ≡ pos 0
absent w b q [] h = refl
absent w b q (x ∷ xs) h =
    let p = or_parts (eqb x.number b) (is_account b xs) h in
    let rest = absent w b q xs p.1 in
    let here : eqb b x.number ≡ false = eqb_turned x.number b false p.0 in
    elim (is_of w x) as (λ t. cond t (cond (eqb b x.number) q (pos 0)) (pos 0) +ℤ held_by w (λ a. cond (eqb b a) q (pos 0)) xs ≡ pos 0) [ true ↦ rw here (omega (arith, ints, rest)) | false ↦ omega (arith, ints, rest) ]

here_or_later : (t u v : Bool) (q sum : ℤ) → (t ≡ true → sum ≡ pos 0) → sum ≡ cond v q (pos 0) → cond u (cond t q (pos 0)) (pos 0) +ℤ sum ≡ cond (cond t u v) q (pos 0)
here_or_later true true v q sum h rest = omega (arith, ints, h refl)
here_or_later true false v q sum h rest = omega (arith, ints, h refl)
here_or_later false true v q sum h rest = omega (arith, ints, rest)
here_or_later false false v q sum h rest = omega (arith, ints, rest)

part_cond : (w : Whose) (t : Bool) (x : Account) (o : Option Account) → is_part w (cond t (Some x) o) ≡ cond t (is_of w x) (is_part w o)
part_cond w true x o = refl
part_cond w false x o = refl

part_at : (w : Whose) (b : ℕ) (q : ℤ) (xs : List Account) → are_apart xs ≡ true → held_by w (λ a. cond (eqb b a) q (pos 0)) xs ≡ cond (is_part w (find (λ x. eqb x.number b) xs)) q (pos 0)
part_at w b q [] h = refl
part_at w b q (x ∷ xs) h =
    let p = and_parts (not (is_account x.number xs)) (are_apart xs) h in
    let off = not-true (is_account x.number xs) p.0 in
    let alone : eqb b x.number ≡ true → held_by w (λ a. cond (eqb b a) q (pos 0)) xs ≡ pos 0 = λ e. absent w b q xs (ap (λ (a : ℕ). is_account a xs) (eqb-true b x.number e) ∙ off) in
    here_or_later (eqb b x.number) (is_of w x) (is_part w (find (λ x. eqb x.number b) xs)) q _ alone (part_at w b q xs p.1)
    ∙ ap (λ (t : Bool). cond (cond t (is_of w x) (is_part w (find (λ x. eqb x.number b) xs))) q (pos 0)) (eqb_turned x.number b _ refl)
    ∙ ap (λ (t : Bool). cond t q (pos 0)) (sym (part_cond w (eqb x.number b) x (find (λ x. eqb x.number b) xs)))

part_of : (w : Whose) (o : Option ℕ) (q : ℤ) (xs : List Account) → are_apart xs ≡ true → held_by w (λ a. cond (is_at o a) q (pos 0)) xs ≡ cond (belongs w o xs) q (pos 0)
part_of w None q xs h = held_none w xs
part_of w (Some b) q xs h = part_at w b q xs h

-- ---- what a shift adds
shifted : (b t f : Bool) (x : Amount) → b ≡ true → (cond b (amount_plus (cond t x no_amount) (cond f (amount_minus x) no_amount)) no_amount).quantity ≡ cond t x.quantity (pos 0) +ℤ cond f (neg_ℤ x.quantity) (pos 0)
shifted true true true x h = refl
shifted true true false x h = refl
shifted true false true x h = refl
shifted true false false x h = refl
shifted false t f x h = absurd (let z : ◌≡◌ {A = ℕ} 0 1 = cc in omega arith)

less : (t : Bool) (q : ℤ) → cond t (neg_ℤ q) (pos 0) ≡ neg_ℤ (cond t q (pos 0))
less true q = refl
less false q = refl

added : (w : Whose) (h : Movement) (xs : List Account) → are_apart xs ≡ true → held_by w (λ a. (shifts h a h.contract).quantity) xs ≡ change w h xs
added w h xs apart =
    let q = h.amount.quantity in
    let here = eq-eqb h.contract h.contract refl in
    held_plus w (λ a. (shifts h a h.contract).quantity) (λ a. cond (is_at h.to a) q (pos 0)) (λ a. cond (is_at h.from a) (neg_ℤ q) (pos 0)) xs (λ a. shifted (eqb h.contract h.contract) (is_at h.to a) (is_at h.from a) h.amount here)
    ∙ ap₂ (λ (x y : ℤ). x +ℤ y) (part_of w h.to q xs apart) (part_of w h.from (neg_ℤ q) xs apart ∙ less (belongs w h.from xs) q)

same_accounts : (s : State) (call : Call) → (taken s call).accounts ≡ s.accounts
same_accounts s (Enter t) = refl
same_accounts s (Cancel k) = refl
same_accounts s (Transfer k a) = refl
same_accounts s (LimitMember c most) = refl
same_accounts s (LimitAgents c most) = refl

same_opening : (s : State) (call : Call) (a c : ℕ) → (taken s call).opening a c ≡ s.opening a c
same_opening s (Enter t) a c = refl
same_opening s (Cancel k) a c = refl
same_opening s (Transfer k b) a c = refl
same_opening s (LimitMember d most) a c = refl
same_opening s (LimitAgents d most) a c = refl

-- the net position of an account, with what the call moves
net_after : (s : State) (call : Call) (a c : ℕ) → no_standing_entry s call ≡ false → net (taken s call) a c ≡ net s a c +ℤ (shifts (shift_of s call) a c).quantity
net_after s call a c h =
    let o = ap (λ (x : Amount). x.quantity) (same_opening s call a c) in
    let t = ap (λ (x : Amount). x.quantity) (after_call s call a c h) in
    omega (arith, ints, o, t)

-- a sum after a call
pub held_after_is : (s : State) (call : Call) (w : Whose) → are_apart s.accounts ≡ true → no_standing_entry s call ≡ false → held (taken s call) w (shift_of s call).contract ≡ held_after s w (shift_of s call)
held_after_is s call w apart stands =
    let h = shift_of s call in
    let c = h.contract in
    ap (held_by w (λ a. net (taken s call) a c)) (same_accounts s call)
    ∙ held_plus w (λ a. net (taken s call) a c) (λ a. net s a c) (λ a. (shifts h a c).quantity) s.accounts (λ a. net_after s call a c stands)
    ∙ ap (λ (x : ℤ). held s w c +ℤ x) (added w h s.accounts apart)

-- ---- what the layer refuses, by the call's shift
place_over : (y : Layer) (s : State) (call : Call) (a : ℕ) → are_apart s.accounts ≡ true → no_standing_entry s call ≡ false → exceeds y s (taken s call) a (shift_of s call).contract ≡ over_at (limit_of y s.listings (shift_of s call).contract) y.scope s (shift_of s call) (Some a)
place_over y s call a apart stands =
    let h = shift_of s call in
    let w = sum_of y.scope a s.accounts in
    ap (grows (limit_of y s.listings h.contract) (held s w h.contract)) (held_after_is s call w apart stands)

pub over_by_is : (y : Layer) (s : State) (call : Call) → are_apart s.accounts ≡ true → no_standing_entry s call ≡ false → own_over y s (taken s call) (changed s call) ≡ over_by y s (shift_of s call)
over_by_is y s (Enter t) apart stands = or-false _ ∙ place_over y s (Enter t) t.account apart stands
over_by_is y s (Cancel k) apart stands = ap (λ (b : Bool). b || false) (place_over y s (Cancel k) (entry_at s k).trade.account apart stands)
over_by_is y s (Transfer k a) apart stands =
    ap₂ (λ (b d : Bool). b || d) (place_over y s (Transfer k a) (entry_at s k).trade.account apart stands) (or-false _ ∙ place_over y s (Transfer k a) a apart stands)
over_by_is y s (LimitMember c most) apart stands = refl
over_by_is y s (LimitAgents c most) apart stands = refl

unlimited : (w : Scope) (s : State) (h : Movement) (o : Option ℕ) → over_at None w s h o ≡ false
unlimited w s h None = refl
unlimited w s h (Some a) = refl

-- where there is no limit, none is passed
pub none_over : (y : Layer) (s : State) (h : Movement) → limit_of y s.listings h.contract ≡ None → over_by y s h ≡ false
none_over y s h e =
    ap (λ (l : Option ℕ). over_at l y.scope s h h.from || over_at l y.scope s h h.to) e
    ∙ ap₂ (λ (b d : Bool). b || d) (unlimited y.scope s h h.from) (unlimited y.scope s h h.to)
