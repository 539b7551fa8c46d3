-- Tables with one row more keep the rules.
use Rattle.std.proofs.Common.{◌≡◌, ℕ, suc, ◌<◌, Bool, true, false, cond, not, ◌&&◌, ◌||◌, eqb, leb, List, [], ◌∷◌, ◌++◌, length, get_or, take, is_some, Some, None, is_ok, Ok, Err, Option, Result, unwrap_or, sym, refl, ap, ◌∙◌, subst, inl, inr, arith}
use Rattle.std.proofs.lemmas.List.{take-append-le, take_at, get_or_append_left, get_or_push, length_push}
use Rattle.std.proofs.lemmas.Bool.{cases_lt, cases_Bool, not-false, not-true, not_from_true, not_from_false, cond-true, cond-false, and_from, and_parts, or_from, or_parts, or_left, eqb-true, eqb-false, eq-eqb, ne_eqb, false≢true, both_ways, leb-false}
use Rattle.terms.specs.Amounts.{no_amount}
use Rattle.terms.specs.declared.refusal.Refusal.{Refusal}
use Rattle.terms.specs.declared.refusal.Refusal.TheVariants.{RepeatedKey, TooLong}
use Rattle.books.specs.State.{is_account, is_listing, are_apart}
use Rattle.books.specs.declared.entry.Account.{Account}
use Rattle.books.specs.declared.entry.Listing.{Listing}
use Rattle.opening.specs.Rows.{is_of, is_opened, amount_in, opened_in}
use Rattle.opening.specs.Rules.{lowest, row_within, suits_type, is_known, opening_refusal, place_by, Kept}
use Rattle.opening.specs.declared.rows.Opened.{Opened}
use Rattle.books.proofs.Rows.{accounts, is_push}

-- ---- a chain of refusals
pub lowest_none : (a b c d : Bool) → is_some (lowest a b c d) ≡ false → (a ≡ false) × (b ≡ false) × (c ≡ false) × (d ≡ false)
lowest_none true b c d h = absurd (false≢true (sym h))
lowest_none false true c d h = absurd (false≢true (sym h))
lowest_none false false true d h = absurd (false≢true (sym h))
lowest_none false false false true h = absurd (false≢true (sym h))
lowest_none false false false false h = (refl, refl, refl, refl)

pub none_lowest : (a b c d : Bool) → a ≡ false → b ≡ false → c ≡ false → d ≡ false → lowest a b c d ≡ None
none_lowest a b c d p q r s = rw (p, q, r, s)

pub again_lowest : (a b c d : Bool) → a ≡ false → b ≡ false → c ≡ true → lowest a b c d ≡ Some RepeatedKey
again_lowest a b c d p q r = rw (p, q, r)

-- what has no refusal but for want of room
pub room_lowest : (a b c d : Bool) → lowest a b c false ≡ None → lowest a b c d ≡ cond d (Some TooLong) None
room_lowest true b c d h = absurd (let z : ◌≡◌ {A = ℕ} 0 1 = cc in omega arith)
room_lowest false true c d h = absurd (let z : ◌≡◌ {A = ℕ} 0 1 = cc in omega arith)
room_lowest false false true d h = absurd (let z : ◌≡◌ {A = ℕ} 0 1 = cc in omega arith)
room_lowest false false false d h = refl

-- and the refusals before it
pub rest_lowest : (a b c d : Bool) (e : Refusal) → lowest a b c false ≡ Some e → lowest a b c d ≡ Some e
rest_lowest true b c d e h = h
rest_lowest false true c d e h = h
rest_lowest false false true d e h = h
rest_lowest false false false d e h = absurd (let z : ◌≡◌ {A = ℕ} 0 1 = cc in omega arith)

pub place_by_ok : (i place : ℕ) (o : Option Refusal) → Ok i ≡ place_by place o → (i ≡ place) × (o ≡ None)
place_by_ok i place None e = (cc, refl)
place_by_ok i place (Some x) e = let z : ◌≡◌ {A = ℕ} 0 1 = cc in absurd (omega arith)

pub place_by_err : (y : Refusal) (place : ℕ) (o : Option Refusal) → Err y ≡ place_by place o → o ≡ Some y
place_by_err y place None e = let z : ◌≡◌ {A = ℕ} 0 1 = cc in absurd (omega arith)
place_by_err y place (Some x) e = cc

pub kept_none : {X : Type 0} (refusal : List X → X → Option Refusal) (xs : List X) → xs ≡ [] → Kept refusal xs
kept_none refusal xs e k d l = absurd (omega (arith, ap length e))

-- ---- one row more
pub kept_more : {X : Type 0} (refusal : List X → X → Option Refusal) (xs : List X) (x : X) → Kept refusal xs → is_some (refusal xs x) ≡ false → Kept refusal (xs ++ x ∷ [])
kept_more refusal xs x kept h k d l = elim (cases_lt k (length xs)) [
  | inl a ↦ (
      let front : take k (xs ++ x ∷ []) ≡ take k xs = take-append-le k xs (x ∷ []) (omega arith) in
      let row : get_or (xs ++ x ∷ []) k d ≡ get_or xs k d = get_or_append_left xs (x ∷ []) d k a in
      rw (front, row) (kept k d a))
  | inr a ↦ (
      let n = length_push xs x in
      let at : length xs ≡ k = omega arith in
      rw (take_at xs (x ∷ []) k at, get_or_push xs x d k at) h)
]

-- a row that was added, or found no room
pub pushed : {X : Type 0} (P : List X → Type 0) (most : ℕ) (xs ys : List X) (x : X) (r : Result (Unit {0}) Refusal) → r ≡ cond (leb most (length xs)) (Err TooLong) (Ok tt) → ys ≡ cond (is_ok r) (xs ++ x ∷ []) xs → P xs → (leb most (length xs) ≡ false → P (xs ++ x ∷ [])) → P ys
pushed P most xs ys x r answer rows same more = by (leb most (length xs)) refl
  where
    by : (b : Bool) → leb most (length xs) ≡ b → P ys
    by true e = subst P (sym (rows ∙ ap (λ (q : Result (Unit {0}) Refusal). cond (is_ok q) (xs ++ x ∷ []) xs) (answer ∙ ap (λ b. cond b (Err TooLong) (Ok tt)) e))) same
    by false e = subst P (sym (rows ∙ ap (λ (q : Result (Unit {0}) Refusal). cond (is_ok q) (xs ++ x ∷ []) xs) (answer ∙ ap (λ b. cond b (Err TooLong) (Ok tt)) e))) (more e)

-- ---- one account more
pub apart_more : (xs : List Account) (x : Account) → are_apart xs ≡ true → is_account x.number xs ≡ false → are_apart (xs ++ x ∷ []) ≡ true
apart_more [] x h k = refl
apart_more (y ∷ xs) x h k =
    let both = and_parts (not (is_account y.number xs)) (are_apart xs) h in
    let far = or_parts (eqb y.number x.number) (is_account x.number xs) k in
    let other : eqb x.number y.number ≡ false = ne_eqb _ _ (λ e. eqb-false _ _ far.0 (sym e)) in
    let none : is_account y.number (xs ++ x ∷ []) ≡ false = is_push accounts y.number xs x ∙ or_from _ _ (not-true _ both.0) other in
    and_from _ _ (not_from_false _ none) (apart_more xs x both.1 far.1)

still_account : (a : ℕ) (xs : List Account) (x : Account) → is_account a xs ≡ true → is_account a (xs ++ x ∷ []) ≡ true
still_account a xs x h = is_push accounts a xs x ∙ or_left _ _ h

-- ---- what is known of a row
pub record Sound (xs : List Account) (ls : List Listing) (rs : List Opened) (r : Opened) : Type 0 where
  pub fits : row_within r ≡ true
  pub suits : suits_type ls r ≡ true
  pub account : is_account r.account xs ≡ true
  pub listing : is_listing r.contract ls ≡ true
  pub fresh : is_opened rs r.account r.contract ≡ false
  pub few : length rs < 4096

pub sound : (xs : List Account) (ls : List Listing) (rs : List Opened) (r : Opened) → is_some (opening_refusal xs ls rs r) ≡ false → Sound xs ls rs r
sound xs ls rs r h =
    let p = lowest_none (not (row_within r && suits_type ls r)) (not (is_known xs ls r)) (is_opened rs r.account r.contract) (leb 4096 (length rs)) h in
    let w = and_parts (row_within r) (suits_type ls r) (not-false _ p.0) in
    let k = and_parts (is_account r.account xs) (is_listing r.contract ls) (not-false _ p.1) in
    record { fits = w.0; suits = w.1; account = k.0; listing = k.1; fresh = p.2; few = leb-false 4096 (length rs) p.3 }

pub sound_at : (xs : List Account) (ls : List Listing) (rs : List Opened) → Kept (opening_refusal xs ls) rs → (k : ℕ) (d : Opened) → k < length rs → Sound xs ls (take k rs) (get_or rs k d)
sound_at xs ls rs kept k d l = sound xs ls (take k rs) (get_or rs k d) (kept k d l)

pub rows_still : (xs : List Account) (x : Account) (ls : List Listing) (rs : List Opened) → Kept (opening_refusal xs ls) rs → Kept (opening_refusal (xs ++ x ∷ []) ls) rs
rows_still xs x ls rs kept k d l =
    let r = get_or rs k d in
    let p = lowest_none (not (row_within r && suits_type ls r)) (not (is_known xs ls r)) (is_opened (take k rs) r.account r.contract) (leb 4096 (length (take k rs))) (kept k d l) in
    let s = sound_at xs ls rs kept k d l in
    let known : is_known (xs ++ x ∷ []) ls r ≡ true = and_from _ _ (still_account r.account xs x s.account) s.listing in
    ap is_some (none_lowest _ _ _ _ p.0 (not_from_true _ known) p.2 p.3)

-- ---- rows by account and contract
own : (r : Opened) → is_of r.account r.contract r ≡ true
own r = and_from _ _ (eq-eqb r.account _ refl) (eq-eqb r.contract _ refl)

other : (r : Opened) (a c : ℕ) → (a ≡ r.account → c ≡ r.contract → ⊥) → is_of a c r ≡ false
other r a c ne = elim (cases_Bool (is_of a c r)) [
  | inl t ↦ (let p = and_parts (eqb r.account a) (eqb r.contract c) t in absurd (ne (sym (eqb-true _ _ p.0)) (sym (eqb-true _ _ p.1))))
  | inr n ↦ n
]

unopened_by : (xs : List Account) (rs : List Opened) (a c : ℕ) → ((k : ℕ) (d : Opened) → k < length rs → is_account (get_or rs k d).account xs ≡ true) → is_account a xs ≡ false → is_opened rs a c ≡ false
unopened_by xs [] a c h f = refl
unopened_by xs (r ∷ rs) a c h f = elim (cases_Bool (is_of a c r)) [
  | inl t ↦ (
      let e : r.account ≡ a = eqb-true _ _ (and_parts (eqb r.account a) (eqb r.contract c) t).0 in
      absurd (both_ways (is_account a xs) f (ap (λ u. is_account u xs) (sym e) ∙ h 0 r (omega arith))))
  | inr n ↦ or_from _ _ n (unopened_by xs rs a c (λ k d l. h (suc k) d (omega arith)) f)
]

pub unopened : (xs : List Account) (ls : List Listing) (rs : List Opened) (a c : ℕ) → Kept (opening_refusal xs ls) rs → is_account a xs ≡ false → is_opened rs a c ≡ false
unopened xs ls rs a c kept = unopened_by xs rs a c (λ k d l. (sound_at xs ls rs kept k d l).account)

-- the amount and the mark of a row, as one
pub amount_opened : (rs : List Opened) (a c : ℕ) → unwrap_or (opened_in rs a c) no_amount ≡ amount_in rs a c
amount_opened [] a c = refl
amount_opened (r ∷ rs) a c = here (is_of a c r) (amount_opened rs a c)
  where
    here : (b : Bool) → unwrap_or (opened_in rs a c) no_amount ≡ amount_in rs a c → unwrap_or (cond b (Some r.amount) (opened_in rs a c)) no_amount ≡ cond b r.amount (amount_in rs a c)
    here true e = refl
    here false e = e

pub is_some_opened : (rs : List Opened) (a c : ℕ) → is_some (opened_in rs a c) ≡ is_opened rs a c
is_some_opened [] a c = refl
is_some_opened (r ∷ rs) a c = here (is_of a c r) (is_some_opened rs a c)
  where
    here : (b : Bool) → is_some (opened_in rs a c) ≡ is_opened rs a c → is_some (cond b (Some r.amount) (opened_in rs a c)) ≡ b || is_opened rs a c
    here true e = refl
    here false e = e

pub none_opened : (rs : List Opened) (a c : ℕ) → is_opened rs a c ≡ false → opened_in rs a c ≡ None
none_opened [] a c h = refl
none_opened (r ∷ rs) a c h =
    let p = or_parts (is_of a c r) (is_opened rs a c) h in
    cond-false (is_of a c r) (Some r.amount) (opened_in rs a c) p.0 ∙ none_opened rs a c p.1

opened_push : (rs : List Opened) (r : Opened) (a c : ℕ) → is_of a c r ≡ false → opened_in (rs ++ r ∷ []) a c ≡ opened_in rs a c
opened_push [] r a c h = cond-false (is_of a c r) (Some r.amount) None h
opened_push (q ∷ rs) r a c h = ap (λ x. cond (is_of a c q) (Some q.amount) x) (opened_push rs r a c h)

pub opened_other : (rs : List Opened) (r : Opened) (a c : ℕ) → (a ≡ r.account → c ≡ r.contract → ⊥) → opened_in (rs ++ r ∷ []) a c ≡ opened_in rs a c
opened_other rs r a c ne = opened_push rs r a c (other r a c ne)

pub opened_new : (rs : List Opened) (r : Opened) → is_opened rs r.account r.contract ≡ false → opened_in (rs ++ r ∷ []) r.account r.contract ≡ Some r.amount
opened_new [] r h = cond-true _ _ _ (own r)
opened_new (q ∷ rs) r h =
    let p = or_parts (is_of r.account r.contract q) (is_opened rs r.account r.contract) h in
    cond-false _ _ _ p.0 ∙ opened_new rs r p.1
