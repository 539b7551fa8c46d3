-- What moves between cells.
use Rattle.std.proofs.Common.{◌≡◌, ℕ, ◌<◌, Bool, true, false, cond, ◌&&◌, eqb, List, length, set, Some, None, vec_items, Option, sym, refl, ap, ◌∙◌, ap₂, arith}
use Rattle.std.proofs.lemmas.Int.{ints}
use Rattle.std.proofs.lemmas.Bool.{and_from, eq-eqb, eqb-true}
use Rattle.terms.specs.Amounts.{no_amount, amount_plus, amount_minus}
use Rattle.terms.specs.declared.amounts.Amount.{Amount}
use Rattle.books.proofs.Shifts.{amount_ext}
use Rattle.books.specs.Cells.{trades_within}
use Rattle.books.specs.Shifts.{Movement, is_at, shifts}
use Rattle.books.specs.declared.entry.Account.{Account}
use Rattle.books.specs.declared.entry.Listing.{Listing}
use Rattle.ledger.specs.Places.{place_of, is_listed, amount_at, openings, trades, goes, Shifted}
use Rattle.ledger.specs.Views.{traded, is_in, bears_at, bears_by, Kept}
use Rattle.ledger.specs.declared.tables.Tables.{Tables}
use Rattle.ledger.proofs.Writes.{either}

pub nothing_more : (x : Amount) → amount_plus x no_amount ≡ x
nothing_more x = amount_ext _ _ (omega (arith, ints)) (omega (arith, ints))

-- ---- one cell
pub one_more : (xs : List Account) (cs : List Listing) (ts : List Amount) (b d : ℕ) (by : Amount) → is_listed xs cs b d ≡ true → place_of xs cs b d < length ts → Shifted xs cs (goes (Some b) d by) ts (set ts (place_of xs cs b d) (amount_plus (amount_at xs cs ts b d) by))
one_more xs cs ts b d by k l a c h =
    either xs cs (λ (x : Amount). x ≡ amount_plus (amount_at xs cs ts a c) (goes (Some b) d by a c)) ts a c b d _ h k l
    (λ s.
    let here : eqb d c && eqb b a ≡ true = and_from (eqb d c) (eqb b a) (eq-eqb d c (sym s.1)) (eq-eqb b a (sym s.0)) in
    ap₂ (λ i j. amount_plus (amount_at xs cs ts i j) by) (sym s.0) (sym s.1) ∙ ap (λ (t : Bool). amount_plus (amount_at xs cs ts a c) (cond t by no_amount)) (sym here))
    (λ ne. sym (ap (λ (t : Bool). amount_plus (amount_at xs cs ts a c) (cond t by no_amount)) (elsewhere ne) ∙ nothing_more _))
  where
    elsewhere : ((a ≡ b) × (c ≡ d) → ⊥) → eqb d c && eqb b a ≡ false
    elsewhere ne = out (eqb d c) (eqb b a) (eqb-true d c) (eqb-true b a)
      where
        out : (p q : Bool) → (p ≡ true → d ≡ c) → (q ≡ true → b ≡ a) → p && q ≡ false
        out true true u v = absurd (ne (sym (v refl), sym (u refl)))
        out true false u v = refl
        out false q u v = refl

-- the same, by what each is
pub shifted_as : (xs : List Account) (cs : List Listing) (ts us : List Amount) (o p : Option ℕ) (c d : ℕ) (x y : Amount) → o ≡ p → c ≡ d → x ≡ y → Shifted xs cs (goes o c x) ts us → Shifted xs cs (goes p d y) ts us
shifted_as xs cs ts us o p c d x y e f g s a b l = s a b l ∙ ap (amount_plus (amount_at xs cs ts a b)) (ap₂ (λ (q : Option ℕ) k. goes q k x a b) e f ∙ ap (λ (z : Amount). goes p d z a b) g)

-- ---- two cells
pub both_more : (xs : List Account) (cs : List Listing) (h : Movement) (ts us vs : List Amount) → Shifted xs cs (goes h.from h.contract (amount_minus h.amount)) ts us → Shifted xs cs (goes h.to h.contract h.amount) us vs → Shifted xs cs (shifts h) ts vs
both_more xs cs h ts us vs f g a c l = g a c l ∙ ap (λ (x : Amount). amount_plus x (goes h.to h.contract h.amount a c)) (f a c l) ∙ joined (amount_at xs cs ts a c) h.amount (eqb h.contract c) (is_at h.to a) (is_at h.from a)
  where
    joined : (x y : Amount) (p q r : Bool) → amount_plus (amount_plus x (cond (p && r) (amount_minus y) no_amount)) (cond (p && q) y no_amount) ≡ amount_plus x (cond p (amount_plus (cond q y no_amount) (cond r (amount_minus y) no_amount)) no_amount)
    joined x y true true true = amount_ext _ _ (omega (arith, ints)) (omega (arith, ints))
    joined x y true true false = amount_ext _ _ (omega (arith, ints)) (omega (arith, ints))
    joined x y true false true = amount_ext _ _ (omega (arith, ints)) (omega (arith, ints))
    joined x y true false false = amount_ext _ _ (omega (arith, ints)) (omega (arith, ints))
    joined x y false q r = amount_ext _ _ (omega (arith, ints)) (omega (arith, ints))

-- ---- what another account bears stays
pub listed_borne : (t : Tables) (a c : ℕ) (by : Amount) → bears_at t a c by ≡ true → is_in t a c ≡ true
listed_borne t a c by e = there (is_in t a c) _ e
  where
    there : (p q : Bool) → cond p q false ≡ true → p ≡ true
    there true q e = refl
    there false q e = e

pub still_bears : (t u : Tables) (from to : Option ℕ) (c : ℕ) (x y : Amount) → Kept t u → Shifted (vec_items t.accounts) (vec_items t.listings) (goes from c x) (trades (vec_items t.cells)) (trades (vec_items u.cells)) → ((a : ℕ) → is_at to a ≡ true → is_at from a ≡ false) → bears_by t to c y ≡ true → bears_by u to c y ≡ true
still_bears t u from None c x y k s ne e = refl
still_bears t u from (Some b) c x y k s ne e =
    let xs = vec_items t.accounts in
    let cs = vec_items t.listings in
    let listed = listed_borne t b c y e in
    let out : is_at from b ≡ false = ne b (eq-eqb b b refl) in
    let same : amount_at xs cs (trades (vec_items u.cells)) b c ≡ traded t b c = s b c listed ∙ ap₂ (λ (p q : Bool). amount_plus (traded t b c) (cond (p && q) x no_amount)) (eq-eqb c c refl) out ∙ nothing_more _ in
    let accounts = ap vec_items k.accounts in
    let listings = ap vec_items k.listings in
    let amounts = k.opening in
    (ap₂ (λ (as' : List Account) (cs' : List Listing). cond (is_listed as' cs' b c) (trades_within (amount_at as' cs' (openings (vec_items u.cells)) b c) (amount_plus (amount_at as' cs' (trades (vec_items u.cells)) b c) y)) false) accounts listings)
    ∙ ap₂ (λ (os : List Amount) (z : Amount). cond (is_listed xs cs b c) (trades_within (amount_at xs cs os b c) (amount_plus z y)) false) amounts same
    ∙ e
