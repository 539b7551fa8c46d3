-- Rows that go by numbers of their own: whether one is there, its place, and what stands in it.
use Rattle.std.proofs.Common.{◌≡◌, ℕ, zero, suc, ◌+◌, ◌<◌, Bool, true, false, cond, ◌||◌, eqb, ltb, List, [], ◌∷◌, ◌++◌, length, get_or, Some, None, Option, unwrap_or, sym, refl, ap, ◌∙◌, subst, inl, inr, add-zero, zero-add, arith}
use mathlib.Core.Bool.{or-false, or_assoc}
use Rattle.std.specs.List.{find, position, position_from}
use Rattle.std.specs.Option.{option_map}
use Rattle.std.proofs.lemmas.Bool.{cases_Bool, cond-true, cond-false, eq-eqb, ne_eqb, eqb-true, eqb-false, both_ways, or_right}
use Rattle.std.proofs.lemmas.Iterator.Adapters.{position_from-zero}
use Rattle.contracts.specs.declared.kind.Kind.TheVariants as kind
use Rattle.books.specs.Answers.{is_over}
use Rattle.books.specs.State.{is_account, is_listing, account_place, listing_place, agent_of, kind_of}
use Rattle.books.specs.declared.entry.Account.{Account}
use Rattle.books.specs.declared.entry.Listing.{Listing}

pub record Numbered (X : Type 0) : Type 0 where
  pub key : X → ℕ
  pub is : ℕ → List X → Bool
  pub place : ℕ → List X → ℕ
  pub is_none : (u : ℕ) → is u [] ≡ false
  pub is_more : (u : ℕ) (x : X) (xs : List X) → is u (x ∷ xs) ≡ (eqb (key x) u || is u xs)
  pub place_none : (u : ℕ) → place u [] ≡ 0
  pub place_more : (u : ℕ) (x : X) (xs : List X) → place u (x ∷ xs) ≡ cond (eqb (key x) u) 0 (suc (place u xs))

abbrev pub accounts : Numbered Account
accounts = record { key = λ x. x.number; is = is_account; place = account_place; is_none = λ _. refl; is_more = λ _ _ _. refl; place_none = λ _. refl; place_more = λ _ _ _. refl }

abbrev pub listings : Numbered Listing
listings = record { key = λ x. x.number; is = is_listing; place = listing_place; is_none = λ _. refl; is_more = λ _ _ _. refl; place_none = λ _. refl; place_more = λ _ _ _. refl }

-- what a search finds
abbrev pub found : {X : Type 0} → Numbered X → ℕ → List X → Option ℕ
found f u xs = cond (f.is u xs) (Some (f.place u xs)) None

walked : (i : ℕ) (b t : Bool) (k : ℕ) → cond b (Some i) (cond t (Some (i + 1 + k)) None) ≡ cond (b || t) (Some (i + cond b 0 (suc k))) None
walked i true t k = ap Some (sym (add-zero i))
walked i false t k = ap (λ n. cond t (Some n) None) (omega arith)

module _ {X : Type 0} (f : Numbered X) (u : ℕ) where
  abbrev pub has : X → Bool
  has x = eqb (f.key x) u

  -- ---- the first row
  pub is_here : (x : X) (xs : List X) → f.key x ≡ u → f.is u (x ∷ xs) ≡ true
  is_here x xs e = rw (f.is_more u x xs, eq-eqb (f.key x) u e)

  pub is_later : (x : X) (xs : List X) → (f.key x ≡ u → ⊥) → f.is u (x ∷ xs) ≡ f.is u xs
  is_later x xs e = rw (f.is_more u x xs, ne_eqb (f.key x) u e)

  pub place_here : (x : X) (xs : List X) → f.key x ≡ u → f.place u (x ∷ xs) ≡ 0
  place_here x xs e = rw (f.place_more u x xs, eq-eqb (f.key x) u e)

  pub place_later : (x : X) (xs : List X) → (f.key x ≡ u → ⊥) → f.place u (x ∷ xs) ≡ suc (f.place u xs)
  place_later x xs e = rw (f.place_more u x xs, ne_eqb (f.key x) u e)

  -- ---- its place
  from_is : (xs : List X) (i : ℕ) → position_from has i xs ≡ cond (f.is u xs) (Some (i + f.place u xs)) None
  from_is [] i = rw (f.is_none u)
  from_is (x ∷ xs) i = ap (cond (has x) (Some i)) (from_is xs (i + 1)) ∙ walked i (has x) (f.is u xs) (f.place u xs) ∙ rw (f.is_more u x xs, f.place_more u x xs)

  pub position_is : (xs : List X) → position has xs ≡ found f u xs
  position_is xs = position_from-zero has xs ∙ from_is xs 0 ∙ rw zero-add

  -- the same of a list that goes by another name
  pub position_read : (ys xs : List X) (r : Option ℕ) → r ≡ position has ys → ys ≡ xs → r ≡ found f u xs
  position_read ys xs r e same = e ∙ ap (position has) same ∙ position_is xs

  pub place_under : (xs : List X) → f.is u xs ≡ true → f.place u xs < length xs
  place_under [] h = absurd (both_ways (f.is u []) (f.is_none u) h)
  place_under (x ∷ xs) h = elim (cases_Bool (eqb (f.key x) u)) [
    | inl e ↦ (let p = place_here x xs (eqb-true _ _ e) in omega arith)
    | inr e ↦ (
        let ne = eqb-false _ _ e in
        let p = place_later x xs ne in
        let q = place_under xs (sym (is_later x xs ne) ∙ h) in
        omega arith)
  ]

  pub place_past : (xs : List X) → f.is u xs ≡ false → f.place u xs ≡ length xs
  place_past [] h = f.place_none u
  place_past (x ∷ xs) h = elim (cases_Bool (eqb (f.key x) u)) [
    | inl e ↦ absurd (both_ways (f.is u (x ∷ xs)) h (is_here x xs (eqb-true _ _ e)))
    | inr e ↦ (let ne = eqb-false _ _ e in place_later x xs ne ∙ ap suc (place_past xs (sym (is_later x xs ne) ∙ h)))
  ]

  -- ---- one row more
  pub is_push : (xs : List X) (x : X) → f.is u (xs ++ x ∷ []) ≡ (f.is u xs || eqb (f.key x) u)
  is_push [] x = rw (f.is_more u x [], f.is_none u, or-false)
  is_push (y ∷ xs) x = rw (f.is_more u y (xs ++ x ∷ []), f.is_more u y xs, is_push xs x, or_assoc (eqb (f.key y) u))

  pub place_push : (xs : List X) (x : X) → f.is u xs ≡ true → f.place u (xs ++ x ∷ []) ≡ f.place u xs
  place_push [] x h = absurd (both_ways (f.is u []) (f.is_none u) h)
  place_push (y ∷ xs) x h = elim (cases_Bool (eqb (f.key y) u)) [
    | inl e ↦ place_here y (xs ++ x ∷ []) (eqb-true _ _ e) ∙ sym (place_here y xs (eqb-true _ _ e))
    | inr e ↦ (
        let ne = eqb-false _ _ e in
        place_later y (xs ++ x ∷ []) ne ∙ ap suc (place_push xs x (sym (is_later y xs ne) ∙ h)) ∙ sym (place_later y xs ne))
  ]

  pub place_new : (xs : List X) (x : X) → f.is u xs ≡ false → f.key x ≡ u → f.place u (xs ++ x ∷ []) ≡ length xs
  place_new [] x h e = place_here x [] e
  place_new (y ∷ xs) x h e = elim (cases_Bool (eqb (f.key y) u)) [
    | inl k ↦ absurd (both_ways _ h (is_here y xs (eqb-true _ _ k)))
    | inr k ↦ (
        let ne = eqb-false _ _ k in
        place_later y (xs ++ x ∷ []) ne ∙ ap suc (place_new xs x (sym (is_later y xs ne) ∙ h) e))
  ]

  -- ---- what a search tells
  pub found_some : (xs : List X) (i : ℕ) → Some i ≡ found f u xs → (f.is u xs ≡ true) × (i ≡ f.place u xs)
  found_some xs i e = elim (cases_Bool (f.is u xs)) [
    | inl t ↦ (let s : Some i ≡ Some (f.place u xs) = e ∙ cond-true _ (Some (f.place u xs)) None t in (t, cc))
    | inr n ↦ (let s : Some i ≡ None = e ∙ cond-false _ (Some (f.place u xs)) None n in absurd cc)
  ]

  pub found_none : (xs : List X) → None ≡ found f u xs → f.is u xs ≡ false
  found_none xs e = elim (cases_Bool (f.is u xs)) [
    | inl t ↦ (let s : None ≡ Some (f.place u xs) = e ∙ cond-true _ (Some (f.place u xs)) None t in absurd cc)
    | inr n ↦ n
  ]

  -- ---- the row itself
  pub find_some : (xs : List X) (d : X) → f.is u xs ≡ true → find has xs ≡ Some (get_or xs (f.place u xs) d)
  find_some [] d h = absurd (both_ways (f.is u []) (f.is_none u) h)
  find_some (x ∷ xs) d h = elim (cases_Bool (eqb (f.key x) u)) [
    | inl e ↦ rw (e, place_here x xs (eqb-true _ _ e))
    | inr e ↦ rw (e, place_later x xs (eqb-false _ _ e)) (find_some xs d (sym (is_later x xs (eqb-false _ _ e)) ∙ h))
  ]

  -- ---- what the first row with the number tells, or z
  module _ {Y : Type 0} (F : List X → Y) (g : X → Y) (z : Y) (none : F [] ≡ z) (more : (x : X) (xs : List X) → F (x ∷ xs) ≡ cond (eqb (f.key x) u) (g x) (F xs)) where
    pub told : (xs : List X) → F xs ≡ unwrap_or (option_map g (find has xs)) z
    told [] = none
    told (x ∷ xs) = more x xs ∙ ap (cond (has x) (g x)) (told xs) ∙ by (has x) (find has xs)
      where
        by : (b : Bool) (o : Option X) → cond b (g x) (unwrap_or (option_map g o) z) ≡ unwrap_or (option_map g (cond b (Some x) o)) z
        by true o = refl
        by false o = refl

    pub told_at : (xs : List X) (d : X) → f.is u xs ≡ true → F xs ≡ g (get_or xs (f.place u xs) d)
    told_at xs d h = told xs ∙ ap (λ (o : Option X). unwrap_or (option_map g o) z) (find_some xs d h)

-- the row at a place goes by its number, also where the list goes by another name
pub is_at : {X : Type 0} (f : Numbered X) (xs : List X) (i : ℕ) (d : X) → i < length xs → f.is (f.key (get_or xs i d)) xs ≡ true
is_at f [] i d h = absurd (omega arith)
is_at f (x ∷ xs) zero d h = is_here f (f.key x) x xs refl
is_at f (x ∷ xs) (suc i) d h = f.is_more (f.key (get_or xs i d)) x xs ∙ or_right (eqb (f.key x) (f.key (get_or xs i d))) _ (is_at f xs i d (omega arith))

pub is_of_list : {X : Type 0} (f : Numbered X) (xs ys : List X) (i : ℕ) (d x : X) → xs ≡ ys → i < length xs → x ≡ get_or xs i d → f.is (f.key x) ys ≡ true
is_of_list f xs ys i d x same h is = subst (λ (zs : List _). f.is (f.key x) zs ≡ true) same (ap (λ y. f.is (f.key y) xs) is ∙ is_at f xs i d h)

-- one place, one number
pub same_number : {X : Type 0} (f : Numbered X) (u v : ℕ) (xs : List X) → f.is u xs ≡ true → f.is v xs ≡ true → f.place u xs ≡ f.place v xs → u ≡ v
same_number f u v [] h k p = absurd (both_ways (f.is u []) (f.is_none u) h)
same_number f u v (x ∷ xs) h k p = elim (cases_Bool (eqb (f.key x) u)) [
  | inl e ↦ elim (cases_Bool (eqb (f.key x) v)) [
    | inl e' ↦ sym (eqb-true _ _ e) ∙ eqb-true _ _ e'
    | inr e' ↦ (let a = place_here f u x xs (eqb-true _ _ e) in let b = place_later f v x xs (eqb-false _ _ e') in absurd (omega arith))
  ]
  | inr e ↦ elim (cases_Bool (eqb (f.key x) v)) [
    | inl e' ↦ (let a = place_later f u x xs (eqb-false _ _ e) in let b = place_here f v x xs (eqb-true _ _ e') in absurd (omega arith))
    | inr e' ↦ (
        let a = place_later f u x xs (eqb-false _ _ e) in
        let b = place_later f v x xs (eqb-false _ _ e') in
        same_number f u v xs (sym (is_later f u x xs (eqb-false _ _ e)) ∙ h) (sym (is_later f v x xs (eqb-false _ _ e')) ∙ k) (omega arith))
  ]
]

-- ---- accounts and contracts
-- the agent of an account
pub agent_told : (a : ℕ) (xs : List Account) → agent_of a xs ≡ unwrap_or (option_map (λ x. x.agent) (find (λ x. eqb x.number a) xs)) 0
agent_told a = told accounts a (agent_of a) (λ x. x.agent) 0 refl (λ _ _. refl)

-- the type of a contract
pub kind_at : (c : ℕ) (xs : List Listing) (d : Listing) → is_listing c xs ≡ true → (get_or xs (listing_place c xs) d).kind ≡ kind_of c xs
kind_at c xs d h = sym (told_at listings c (kind_of c) (λ x. x.kind) kind.Option refl (λ _ _. refl) xs d h)

-- whether its last registration day lies before a day
pub over_told : (d c : ℕ) (xs : List Listing) → is_over d c xs ≡ unwrap_or (option_map (λ x. ltb x.registration.number d) (find (λ x. eqb x.number c) xs)) false
over_told d c = told listings c (is_over d c) (λ x. ltb x.registration.number d) false refl (λ _ _. refl)
