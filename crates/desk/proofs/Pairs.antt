-- A `for` over two slices side by side: the pairs that are left, as one list.
use Rattle.std.proofs.Common.{refl, ◌≡◌, List, [], ◌∷◌, Option, Some, None, ap, ap₂, ◌∙◌}
use mathlib.Core.Logic.{◌⊎◌, inl, inr}
use denote.Ref.{Bor}
use Rattle.std.proofs.iter.Yields.{fronts}
use Rattle.std.proofs.lemmas.Iterator.{zips}
use Rattle.std.proofs.lemmas.Slice.Zip.{Zip-more, either_empty_from_Zip}
use Rattle.std.specs.List.{zip}
use Rattle.std.specs.Slice.Iter.{iter_rest}
use Rattle.std.specs.Iterator.Adapters.{zip_first, zip_second}
use Rattle.std.specs.declared.iter.Zip.{Zip}
use Rattle.std.specs.declared.slice.Iter.{Iter}

module _ {A B : Type 0} where
  abbrev pub pairs_rest : Zip (Iter A) (Iter B) → List (A × B)
  pairs_rest z = zip (iter_rest (zip_first z)) (iter_rest (zip_second z))

  pub pairs_rest_more : (s t : Zip (Iter A) (Iter B)) (r : Option (Bor A × Bor B)) (p : Bor A × Bor B) → r ≡ Some p → zips fronts fronts s r t → pairs_rest s ≡ (p.0.now, p.1.now) ∷ pairs_rest t
  pairs_rest_more s t r p e h =
      let k = Zip-more s t r p e h in
      ap₂ (λ (xs : List A) (ys : List B). zip xs ys) k.0 k.1

  zip_none : (xs : List A) → zip {X = B} xs [] ≡ []
  zip_none [] = refl
  zip_none (x ∷ xs) = refl

  pub pairs_rest_all : (s t : Zip (Iter A) (Iter B)) (r : Option (Bor A × Bor B)) → r ≡ None → zips fronts fronts s r t → pairs_rest s ≡ []
  pairs_rest_all s t r e h = by (either_empty_from_Zip s t r e h)
    where
      by : (iter_rest (zip_first s) ≡ []) ⊎ (iter_rest (zip_second s) ≡ []) → pairs_rest s ≡ []
      by (inl n) = ap (λ (xs : List A). zip xs (iter_rest (zip_second s))) n
      by (inr n) = ap (λ (ys : List B). zip (iter_rest (zip_first s)) ys) n ∙ zip_none (iter_rest (zip_first s))
