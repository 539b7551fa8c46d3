-- An instrument that is found by its number, and what is read of it.
use Rattle.std.proofs.Common.{◌≡◌, ℕ, zero, suc, ◌+◌, ◌-◌, ◌∙◌, eqb, List, [], ◌∷◌, map, Some, None, Option, sym, refl, ap, inl, inr}
use lib.Count.{ones}
use Rattle.std.proofs.lemmas.Bool.{cases_Bool, cond-true, cond-false}
use Rattle.std.specs.List.{find}
use Rattle.std.specs.Option.{option_map}
use Rattle.calendar.specs.Hours.{hours_from, hours_between}
use Rattle.contracts.specs.Hours.{mask_in}
use Rattle.contracts.specs.Table.{kind_in}
use Rattle.contracts.specs.Rows.{instr}
use Rattle.contracts.specs.declared.contract.Instrument.{Instrument}

pub kind_in-find : {P : Type 0} (is : List (Instrument P)) (u : ℕ) → kind_in (map instr is) u ≡ option_map (λ i. i.kind) (find (λ i. eqb i.number u) is)
kind_in-find [] u = refl
kind_in-find (i ∷ is) u = elim (cases_Bool (eqb i.number u)) [ inl t ↦ rw t | inr f ↦ rw f (kind_in-find is u) ]

-- the hours of the instrument that is found
module _ {P : Type 0} (mask : P → ℕ → ℕ) where
  abbrev pub hours_found : ℕ → Option (Instrument P) → ℕ
  hours_found d None = 0
  hours_found d (Some i) = ones (mask i.profile d)

  abbrev pub period_found : ℕ → ℕ → Option (Instrument P) → ℕ
  period_found first last None = 0
  period_found first last (Some i) = hours_between (mask i.profile) first last

  pub ones-found : (is : List (Instrument P)) (u d : ℕ) → ones (mask_in mask is u d) ≡ hours_found d (find (λ i. eqb i.number u) is)
  unfolding ones
  ones-found [] u d = refl
  ones-found (i ∷ is) u d = elim (cases_Bool (eqb i.number u)) [ inl t ↦ rw t | inr f ↦ rw f (ones-found is u d) ]

  same_hours : (a b : ℕ → ℕ) → ((d : ℕ) → a d ≡ b d) → (first n : ℕ) → hours_from a first n ≡ hours_from b first n
  unfolding hours_from
  same_hours a b h first zero = refl
  same_hours a b h first (suc n) = rw (same_hours a b h first n, h (first + n))

  no_hours : (first n : ℕ) → hours_from (λ _. 0) first n ≡ 0
  unfolding hours_from ones
  no_hours first zero = refl
  no_hours first (suc n) = rw (no_hours first n)

  pub hours_between-found : (first last : ℕ) (is : List (Instrument P)) (u : ℕ) → hours_between (mask_in mask is u) first last ≡ period_found first last (find (λ i. eqb i.number u) is)
  hours_between-found first last [] u = no_hours first (last - first + 1)
  hours_between-found first last (i ∷ is) u = elim (cases_Bool (eqb i.number u)) [
    | inl t ↦ same_hours (mask_in mask (i ∷ is) u) (mask i.profile) (λ d. rw t) first (last - first + 1) ∙ sym (ap (period_found first last) (cond-true (eqb i.number u) (Some i) (find (λ j. eqb j.number u) is) t))
    | inr f ↦ same_hours (mask_in mask (i ∷ is) u) (mask_in mask is u) (λ d. rw f) first (last - first + 1) ∙ hours_between-found first last is u ∙ sym (ap (period_found first last) (cond-false (eqb i.number u) (Some i) (find (λ j. eqb j.number u) is) f))
  ]
