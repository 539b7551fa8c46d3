-- Where the limits of contracts stand.
use Rattle.std.proofs.Common.{◌≡◌, ℕ, true, false, List, length, get_or, take, set, Some, None, Option, sym, ap, ◌∙◌, inl, inr, arith}
use lib.Seq.{take-set-lt}
use Rattle.std.proofs.lemmas.List.{get_or_past, get_or-take, set_past, length-take}
use Rattle.std.proofs.lemmas.Bool.{cases_Bool}
use Rattle.books.specs.declared.entry.Listing.{Listing}
use Rattle.books.specs.declared.entry.Scope.{Scope}
use Rattle.books.specs.State.{Layer, is_listing, listing_place}
use Rattle.books.proofs.Rows.{listings, found, found_some, found_none, place_under, place_past}

module _ (c : ℕ) (xs : List Listing) (ls : List (Option ℕ)) where
  pub limit_none : is_listing c xs ≡ false → get_or (take (length xs) ls) (listing_place c xs) None ≡ None
  limit_none h =
      let n = length-take (length xs) ls in
      let p = place_past listings c xs h in
      get_or_past (take (length xs) ls) (listing_place c xs) None (omega arith)

  pub limit_at : (p : ℕ) → Some p ≡ found listings c xs → get_or (take (length xs) ls) (listing_place c xs) None ≡ get_or ls p None
  limit_at p h =
      let q = found_some listings c xs p h in
      let inside = place_under listings c xs q.0 in
      get_or-take (length xs) ls (listing_place c xs) None inside ∙ ap (λ (k : ℕ). get_or ls k None) (sym q.1)

  -- what has a limit is listed
  pub limited_listed : (most : ℕ) → get_or (take (length xs) ls) (listing_place c xs) None ≡ Some most → is_listing c xs ≡ true
  limited_listed most h = elim (cases_Bool (is_listing c xs)) [
    | inl t ↦ t
    | inr f ↦ (let e = limit_none f in absurd cc)
  ]

  pub set_at : (p : ℕ) (v : Option ℕ) → Some p ≡ found listings c xs → take (length xs) (set ls p v) ≡ set (take (length xs) ls) (listing_place c xs) v
  set_at p v h =
      let q = found_some listings c xs p h in
      let inside = place_under listings c xs q.0 in
      ap (λ (k : ℕ). take (length xs) (set ls k v)) q.1 ∙ take-set-lt (length xs) ls (listing_place c xs) v inside

  pub set_none : (v : Option ℕ) → None ≡ found listings c xs → take (length xs) ls ≡ set (take (length xs) ls) (listing_place c xs) v
  set_none v h =
      let n = length-take (length xs) ls in
      let p = place_past listings c xs (found_none listings c xs h) in
      sym (set_past (take (length xs) ls) (listing_place c xs) v (omega arith))

pub layer_ext : (w : Scope) (xs ys : List (Option ℕ)) → xs ≡ ys → ◌≡◌ {A = Layer} (record { scope = w; limits = xs }) (record { scope = w; limits = ys })
layer_ext w xs ys e = ap (λ (l : List (Option ℕ)). record { scope = w; limits = l }) e
