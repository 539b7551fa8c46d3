-- Netting. Positions go by the contract's place; a relation is a first contract and those that it is made of.
use Rattle.std.specs.Prelude.{◌≡◌, ℕ, suc, ◌-◌, min, Bool, true, false, cond, ◌&&◌, ◌||◌, List, [], ◌∷◌, ℤ, pos, negsuc, neg_ℤ, ◌≤ℤ◌, ◌==◌, int_lt, slice_index_or, unsigned_abs}

abbrev pub Places : Type 0
Places = ℕ → ℤ

pub record Relation : Type 0 where
  pub first : ℕ
  pub others : List ℕ

-- one above 0, the other below
abbrev pub opposite : ℤ → ℤ → Bool
opposite a b = (int_lt (pos 0) a && int_lt b (pos 0)) || (int_lt a (pos 0) && int_lt (pos 0) b)

abbrev pub all_opposite : Places → ℤ → List ℕ → Bool
all_opposite p a [] = true
all_opposite p a (o ∷ os) = opposite a (p o) && all_opposite p a os

-- every other is opposite to the first
abbrev pub arbitrage : Relation → Places → Bool
arbitrage r p = all_opposite p (p r.first) r.others

-- the smallest size among the first and the others
abbrev pub smallest : Places → ℕ → List ℕ → ℕ
smallest p f [] = unsigned_abs (p f)
smallest p f (o ∷ os) = min (unsigned_abs (p o)) (smallest p f os)

-- k less in size, on the same side of 0
abbrev pub towards : ℕ → ℤ → ℤ
towards k (pos n) = pos (n - k)
towards k (negsuc n) = neg_ℤ (pos (suc n - k))

abbrev pub is_in : ℕ → List ℕ → Bool
is_in i [] = false
is_in i (o ∷ os) = i == o || is_in i os

-- an arbitrage is taken off, at the smallest size
abbrev pub net : Relation → Places → Places
net r p i = cond (arbitrage r p && is_in i (r.first ∷ r.others)) (towards (smallest p r.first r.others) (p i)) (p i)

abbrev pub net_all : List Relation → Places → Places
net_all [] p = p
net_all (r ∷ rs) p = net_all rs (net r p)

-- a list of positions, by place
abbrev pub placed : List ℤ → Places
placed xs i = slice_index_or xs i (pos 0)

-- ---- what is said of it
-- b is on a's side of 0, and no further from it
pub record Nearer (a b : ℤ) : Type 0 where
  pub above : pos 0 ≤ℤ a → (pos 0 ≤ℤ b) × (b ≤ℤ a)
  pub below : a ≤ℤ pos 0 → (b ≤ℤ pos 0) × (a ≤ℤ b)

abbrev pub NoArbitrage : List Relation → Places → Type 0
NoArbitrage [] p = Unit {0}
NoArbitrage (r ∷ rs) p = (arbitrage r p ≡ false) × NoArbitrage rs p
