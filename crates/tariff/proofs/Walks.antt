-- Walks through a list.
use Rattle.std.proofs.Common.{◌≡◌, Bool, true, false, cond, ◌&&◌, ◌||◌, List, [], ◌∷◌, map, Some, None, Option, refl, ap, ◌∙◌}
use Rattle.std.specs.List.{find, list_all}
use Rattle.std.specs.Option.{option_map}

pub true_and : (a b : Bool) → a ≡ true → (a && b) ≡ b
true_and a b e = rw e

pub false_or : (a b : Bool) → a ≡ false → (a || b) ≡ b
false_or a b e = rw e

-- ---- rows, and what they stand for
module _ {X Y : Type 0} (f : X → Y) (p : X → Bool) (q : Y → Bool) (e : (x : X) → p x ≡ q (f x)) where
  pub find_seen : (xs : List X) → option_map f (find p xs) ≡ find q (map f xs)
  find_seen [] = refl
  find_seen (x ∷ xs) = by (p x) (find_seen xs) ∙ ap (λ (b : Bool). cond b (Some (f x)) (find q (map f xs))) (e x)
    where
      by : (b : Bool) → option_map f (find p xs) ≡ find q (map f xs) → option_map f (cond b (Some x) (find p xs)) ≡ cond b (Some (f x)) (find q (map f xs))
      by true h = refl
      by false h = h

  pub all_seen : (xs : List X) → list_all p xs ≡ list_all q (map f xs)
  all_seen [] = refl
  all_seen (x ∷ xs) = rw (e x, all_seen xs)

-- what is made of what is found
pub mapped_twice : {X Y Z : Type 0} (f : X → Y) (g : Y → Z) (o : Option X) → option_map (λ x. g (f x)) o ≡ option_map g (option_map f o)
mapped_twice f g None = refl
mapped_twice f g (Some x) = refl
