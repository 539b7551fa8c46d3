-- What stands at the places of accounts and contracts, with one account or one row more.
use Rattle.std.proofs.Common.{◌≡◌, ℕ, suc, ◌+◌, ◌*◌, ◌/◌, ◌%◌, ◌<◌, ◌≤◌, true, false, not, ◌||◌, eqb, List, [], ◌∷◌, ◌++◌, length, get_or, set, replicate, None, Option, unwrap_or, sym, refl, ap, ◌∙◌, subst, ap₂, inl, inr, arith}
use Rattle.std.proofs.lemmas.Nat.{mul-le, mul-add-lt, div-mul-add, mod-mul-add}
use Rattle.std.proofs.lemmas.List.{get_or_past, get_or-replicate, length-replicate, get_or-set_same, get_or-set_other}
use Rattle.std.proofs.lemmas.Bool.{cases_Bool, cases_lt, cases_eq, cond-true, cond-false, and_parts, or_cases, not_from_true, eqb-true, both_ways, false≢true}
use Rattle.terms.specs.Amounts.{no_amount}
use Rattle.terms.specs.declared.amounts.Amount.{Amount}
use Rattle.contracts.specs.declared.kind.Kind.{Kind}
use Rattle.contracts.specs.declared.kind.Kind.TheVariants as kind
use Rattle.books.specs.Cells.{opens_within}
use Rattle.books.specs.State.{is_account, is_listing, account_place, listing_place, kind_of}
use Rattle.books.specs.declared.entry.Account.{Account}
use Rattle.books.specs.declared.entry.Listing.{Listing}
use Rattle.opening.specs.Places.{place_of, Known, ByPlace, BlankFrom, AllWithin}
use Rattle.opening.specs.Rows.{is_of, amount_in, opened_in}
use Rattle.opening.specs.Rules.{suits_type, opening_refusal, Kept}
use Rattle.opening.specs.declared.rows.Opened.{Opened}
use Rattle.opening.proofs.Keeping.{sound_at, amount_opened}
use Rattle.books.proofs.Rows.{accounts, listings, is_push, place_push, place_new, place_under, same_number}

-- ---- places
pub place_low : (xs : List Account) (ls : List Listing) (n a c : ℕ) → n ≡ length ls → Known xs ls a c → place_of xs ls n a c < length xs * n
place_low xs ls n a c e k =
    let i = place_under accounts a xs k.0 in
    let j : listing_place c ls < n = subst (λ m. listing_place c ls < m) (sym e) (place_under listings c ls k.1) in
    omega (arith, mul-add-lt (account_place a xs) n (listing_place c ls) (length xs) i j)

pub place_inside : (xs : List Account) (ls : List Listing) (n a c : ℕ) → n ≡ length ls → length xs ≤ 32 → Known xs ls a c → place_of xs ls n a c < 32 * n
place_inside xs ls n a c e h k = omega (arith, place_low xs ls n a c e k, mul-le (length xs) n 32 n h (omega arith))

pub same_place : (xs : List Account) (ls : List Listing) (n a c b e : ℕ) → n ≡ length ls → Known xs ls a c → Known xs ls b e → place_of xs ls n a c ≡ place_of xs ls n b e → (a ≡ b) × (c ≡ e)
same_place xs ls n a c b e w k l p =
    let j : listing_place c ls < n = subst (λ m. listing_place c ls < m) (sym w) (place_under listings c ls k.1) in
    let j' : listing_place e ls < n = subst (λ m. listing_place e ls < m) (sym w) (place_under listings e ls l.1) in
    let rows : account_place a xs ≡ account_place b xs = sym (div-mul-add _ n _ j) ∙ ap (λ q. q / n) p ∙ div-mul-add _ n _ j' in
    let columns : listing_place c ls ≡ listing_place e ls = sym (mod-mul-add (account_place a xs) n _ j) ∙ ap (λ q. q % n) p ∙ mod-mul-add (account_place b xs) n _ j' in
    (same_number accounts a b xs k.0 l.0 rows, same_number listings c e ls k.1 l.1 columns)

-- ---- no account yet
pub none_placed : {X : Type 0} (xs : List Account) (ls : List Listing) (n : ℕ) (ys : List X) (d : X) (said : ℕ → ℕ → X) → xs ≡ [] → ByPlace xs ls n ys d said
none_placed xs ls n ys d said e a c k = absurd (false≢true (ap (is_account a) (sym e) ∙ k.0))

pub blank_all : {X : Type 0} (i m : ℕ) (ys : List X) (d : X) → ys ≡ replicate m d → BlankFrom i ys d
blank_all i m ys d e k l = ap (λ l. get_or l k d) e ∙ elim (cases_lt k m) [
  | inl h ↦ get_or-replicate m k d d h
  | inr h ↦ get_or_past (replicate m d) k d (omega (arith, length-replicate m d))
]

-- ---- one account more
pub account_more : {X : Type 0} (xs : List Account) (x : Account) (ls : List Listing) (n : ℕ) (ys : List X) (d : X) (said : ℕ → ℕ → X) → ByPlace xs ls n ys d said → BlankFrom (length xs * n) ys d → is_account x.number xs ≡ false → ((c : ℕ) → said x.number c ≡ d) → ByPlace (xs ++ x ∷ []) ls n ys d said
account_more xs x ls n ys d said by blank fresh none a c k = elim (cases_Bool (is_account a xs)) [
  | inl t ↦ ap (λ i. get_or ys (i * n + listing_place c ls) d) (place_push accounts a xs x t) ∙ by a c (t, k.1)
  | inr f ↦ (
      let is : x.number ≡ a = elim (or_cases (is_account a xs) (eqb x.number a) (sym (is_push accounts a xs x) ∙ k.0)) [
        | inl t ↦ absurd (both_ways _ f t)
        | inr e ↦ eqb-true _ _ e
      ] in
      ap (λ i. get_or ys (i * n + listing_place c ls) d) (place_new accounts a xs x f is) ∙ blank (length xs * n + listing_place c ls) (omega arith) ∙ sym (ap (λ b. said b c) (sym is) ∙ none c))
]

pub blank_later : {X : Type 0} (i j : ℕ) (ys : List X) (d : X) → i ≤ j → BlankFrom i ys d → BlankFrom j ys d
blank_later i j ys d h blank k l = blank k (omega arith)

-- ---- one row more, at its place
pub row_more : {X : Type 0} (xs : List Account) (ls : List Listing) (n a c : ℕ) (ys : List X) (d y : X) (said said' : ℕ → ℕ → X) → n ≡ length ls → Known xs ls a c → place_of xs ls n a c < length ys → ByPlace xs ls n ys d said → said' a c ≡ y → ((b e : ℕ) → (b ≡ a → e ≡ c → ⊥) → said' b e ≡ said b e) → ByPlace xs ls n (set ys (place_of xs ls n a c) y) d said'
row_more xs ls n a c ys d y said said' w known low by here others b e k =
    let p = place_of xs ls n a c in
    elim (cases_eq (place_of xs ls n b e) p) [
      | inl q ↦ (
          let same = same_place xs ls n b e a c w k known q in
          ap (λ i. get_or (set ys p y) i d) q ∙ get_or-set_same ys p y d low ∙ sym (ap₂ said' same.0 same.1 ∙ here))
      | inr q ↦ get_or-set_other ys p (place_of xs ls n b e) y d q ∙ by b e k ∙ sym (others b e (λ f g. q (ap₂ (place_of xs ls n) f g)))
    ]

pub blank_set : {X : Type 0} (i p : ℕ) (ys : List X) (d y : X) → p < i → BlankFrom i ys d → BlankFrom i (set ys p y) d
blank_set i p ys d y h blank k l = get_or-set_other ys p k y d (omega arith) ∙ blank k l

-- ---- the amounts keep to their types
none_within : (k : Kind) → opens_within k no_amount ≡ true
none_within kind.Future = refl
none_within kind.Forward = refl
none_within kind.Swap = refl
none_within kind.Option = refl

amount_within : (ls : List Listing) (rs : List Opened) (a c : ℕ) → is_listing c ls ≡ true → ((k : ℕ) (d : Opened) → k < length rs → suits_type ls (get_or rs k d) ≡ true) → opens_within (kind_of c ls) (amount_in rs a c) ≡ true
amount_within ls [] a c h each = none_within (kind_of c ls)
amount_within ls (r ∷ rs) a c h each = elim (cases_Bool (is_of a c r)) [
  | inl t ↦ (
      let e : r.contract ≡ c = eqb-true _ _ (and_parts (eqb r.account a) (eqb r.contract c) t).1 in
      let suits : (not (is_listing c ls) || opens_within (kind_of c ls) r.amount) ≡ true = subst (λ u. (not (is_listing u ls) || opens_within (kind_of u ls) r.amount) ≡ true) e (each 0 r (omega arith)) in
      let own : opens_within (kind_of c ls) r.amount ≡ true = elim (or_cases _ _ suits) [ inl n ↦ absurd (both_ways _ (not_from_true _ h) n) | inr o ↦ o ] in
      ap (opens_within (kind_of c ls)) (cond-true (is_of a c r) r.amount (amount_in rs a c) t) ∙ own)
  | inr n ↦ ap (opens_within (kind_of c ls)) (cond-false (is_of a c r) r.amount (amount_in rs a c) n) ∙ amount_within ls rs a c h (λ k d l. each (suc k) d (omega arith))
]

pub all_within : (xs : List Account) (ls : List Listing) (n : ℕ) (ys : List (Option Amount)) (rs : List Opened) → ByPlace xs ls n ys None (opened_in rs) → Kept (opening_refusal xs ls) rs → AllWithin xs ls n ys
all_within xs ls n ys rs told kept a c k = ap (opens_within (kind_of c ls)) (ap (λ x. unwrap_or x no_amount) (told a c k) ∙ amount_opened rs a c) ∙ amount_within ls rs a c k.1 (λ i d l. (sound_at xs ls rs kept i d l).suits)
