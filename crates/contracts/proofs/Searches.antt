-- A walk that looks for one number, or for one row of a table, of which a test holds.
use Rattle.std.proofs.Common.{◌≡◌, ℕ, ◌+◌, ◌<◌, Bool, true, false, ◌||◌, List, map, length, get_or, sym, refl, ap, ◌∙◌, subst, inl, inr, add-one}
use Rattle.std.proofs.lemmas.List.{get_or-map}
use Rattle.std.proofs.lemmas.Bool.{or_from, cases_Bool, both_ways}
use Rattle.std.proofs.lemmas.Bool.Decides.{Decides-below_or}
use Rattle.std.proofs.lemmas.List.Recursion.{same_from_clauses, or_is}
use Rattle.std.specs.List.{list_any}
use Rattle.contracts.specs.Lines.{any_below}
use Rattle.contracts.specs.Rules.{same_key, is_repeated}
use Rattle.contracts.specs.Rows.{listed}
use Rattle.contracts.specs.Table.{Listed, blank}
use Rattle.contracts.specs.declared.contract.Contract.{Contract}

pub any_true : (p : ℕ → Bool) (n : ℕ) → any_below p n ≡ true → (i : ℕ) × (i < n) × (p i ≡ true)
unfolding any_below
any_true p n = (Decides-below_or p (λ i. p i ≡ true) (any_below p) (λ i. (λ e. e, λ e. e)) refl (λ _. refl) n).0

pub any_from : (p : ℕ → Bool) (n i : ℕ) → i < n → p i ≡ true → any_below p n ≡ true
unfolding any_below
any_from p n i h e = (Decides-below_or p (λ i. p i ≡ true) (any_below p) (λ i. (λ e. e, λ e. e)) refl (λ _. refl) n).1 (i, h, e)

pub any_more : (p : ℕ → Bool) (i : ℕ) → any_below p i ≡ false → p i ≡ false → any_below p (i + 1) ≡ false
unfolding any_below
any_more p i h e = rw (add-one i) (or_from (p i) (any_below p i) e h)

pub any_false : (p : ℕ → Bool) (n : ℕ) → ((i : ℕ) → i < n → p i ≡ false) → any_below p n ≡ false
any_false p n h = elim (cases_Bool (any_below p n)) [
  | inr f ↦ f
  | inl t ↦ (let j = any_true p n t in absurd (both_ways (p j.0) (h j.0 j.1) j.2))
]

any_each : (p : ℕ → Bool) (n : ℕ) → any_below p n ≡ false → (i : ℕ) → i < n → p i ≡ false
any_each p n h i l = elim (cases_Bool (p i)) [
  | inr f ↦ f
  | inl t ↦ absurd (both_ways (any_below p n) h (any_from p n i l t))
]

-- x is the contract at place i of the items, read as one of `cs`
pub row_at : (cs items : List Contract) (i : ℕ) (x : Contract) → cs ≡ items → i < length cs → x ≡ get_or cs i x → get_or (map listed items) i blank ≡ listed x
row_at cs items i x v h at =
    let lt : i < length items = subst (λ (l : List Contract). i < length l) v h in
    let is : x ≡ get_or items i x = subst (λ (l : List Contract). x ≡ get_or l i x) v at in
    get_or-map listed items i x blank lt ∙ ap listed (sym is)

-- a test of some row, and of some place
pub any_row : (p : Listed → Bool) (items : List Contract) → list_any (λ x. p (listed x)) items ≡ any_below (λ k. p (get_or (map listed items) k blank)) (length (map listed items))
any_row p items =
    let rows = map listed items in
    let at = λ (k : ℕ). p (get_or rows k blank) in
    same_from_clauses (list_any (λ x. p (listed x))) (λ xs. list_any p (map listed xs)) (λ x b. p (listed x) || b) refl (λ _ _. refl) (λ _ _. refl) items
    ∙ sym (or_is (list_any p) p refl (λ _ _. refl) rows blank (any_below at (length rows)) (any_true at (length rows)) (any_each at (length rows)))

pub repeated_any : (c : Listed) (items : List Contract) → list_any (λ x. same_key c (listed x)) items ≡ is_repeated c (map listed items)
repeated_any c items = same_from_clauses (list_any (λ x. same_key c (listed x))) (λ xs. is_repeated c (map listed xs)) (λ x b. same_key c (listed x) || b) refl (λ _ _. refl) (λ _ _. refl) items
