-- One relation, place by place.
use Rattle.std.specs.Prelude.{◌≡◌, ℕ, false, cond, List, [], ◌∷◌}
use Rattle.positions.specs.Net.{Relation, Places, towards, is_in}

-- a size taken off at each of the places
abbrev pub taken : ℕ → List ℕ → Places → Places
taken k os p i = cond (is_in i os) (towards k (p i)) (p i)

abbrev pub related : ℕ → List ℕ → Relation
related f os = record { first = f; others = os }

-- no place twice
abbrev pub Distinct : List ℕ → Type 0
Distinct [] = Unit {0}
Distinct (x ∷ xs) = (is_in x xs ≡ false) × Distinct xs
