-- A loop that adds to a list what each item gives: what is there, with what is left, is the whole.
use Rattle.std.proofs.Common.{◌≡◌, ℕ, ◌+◌, ◌<◌, ◌≤◌, List, [], ◌∷◌, ◌++◌, length, get_or, drop, sym, ap, ◌∙◌, append_assoc}
use Rattle.std.proofs.lemmas.List.{append-nil, at_drop_more, at_drop_all}
use Rattle.std.specs.List.{flat_map}

module _ {X A : Type 0} (f : X → List A) (whole : List A) (done : List A) where
  -- an item more
  pub joined_next : (rest rest' : List X) (x : X) (more : List A) → done ++ flat_map f rest ≡ whole → rest ≡ x ∷ rest' → more ≡ done ++ f x → more ++ flat_map f rest' ≡ whole
  joined_next rest rest' x more inv split added =
      ap (λ (m : List A). m ++ flat_map f rest') added
      ∙ append_assoc done (f x) (flat_map f rest')
      ∙ ap (λ (ys : List X). done ++ flat_map f ys) (sym split)
      ∙ inv

  pub joined_last : (rest : List X) → done ++ flat_map f rest ≡ whole → rest ≡ [] → done ≡ whole
  joined_last rest inv none = sym (ap (λ (ys : List X). done ++ flat_map f ys) none ∙ append-nil done) ∙ inv

  -- the same by the place in a list
  module _ (xs : List X) (i : ℕ) (inv : done ++ flat_map f (drop i xs) ≡ whole) where
    pub joined_at : (d x : X) (more : List A) → i < length xs → x ≡ get_or xs i d → more ≡ done ++ f x → more ++ flat_map f (drop (i + 1) xs) ≡ whole
    joined_at d x more h is added =
        joined_next (drop i xs) (drop (i + 1) xs) x more inv (at_drop_more (λ (ys : List X). ys) xs i d h ∙ ap (λ (y : X). y ∷ drop (i + 1) xs) (sym is)) added

    pub joined_end : length xs ≤ i → done ≡ whole
    joined_end h = joined_last (drop i xs) inv (at_drop_all (λ (ys : List X). ys) xs i h)
