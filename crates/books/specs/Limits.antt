-- What the layers of concentration limits refuse.
use Rattle.std.specs.Prelude.{ℕ, Bool, true, false, cond, ◌&&◌, ◌||◌, List, [], ◌∷◌, ℤ, pos, ◌+ℤ◌, Some, None, Option, ◌==◌, nat_lt, slice_index_or, slice_set, unsigned_abs}
use Rattle.books.specs.declared.entry.Account.{Account}
use Rattle.books.specs.declared.entry.Scope.{Scope}
use Rattle.books.specs.declared.entry.Scope.TheVariants.{Member, Agents}
use Rattle.books.specs.declared.entry.Whose.{Whose}
use Rattle.books.specs.declared.entry.Whose.TheVariants.{Everyone, Agent}
use Rattle.books.specs.State.{State, Layer, listing_place, agent_of, cell_of}

-- the net position of account a in contract c
abbrev pub net : State → ℕ → ℕ → ℤ
net s a c = (cell_of s a c).opening.quantity +ℤ (cell_of s a c).traded.quantity

-- is the account one of the sum?
abbrev pub is_of : Whose → Account → Bool
is_of Everyone x = true
is_of (Agent g) x = x.agent == g

-- the sum of the net positions in contract c
abbrev pub held_by : Whose → (ℕ → ℤ) → List Account → ℤ
held_by w n [] = pos 0
held_by w n (x ∷ xs) = cond (is_of w x) (n x.number) (pos 0) +ℤ held_by w n xs

abbrev pub held : State → Whose → ℕ → ℤ
held s w c = held_by w (λ a. net s a c) s.accounts

-- the sum that account a belongs to
abbrev pub sum_of : Scope → ℕ → List Account → Whose
sum_of Member a xs = Everyone
sum_of Agents a xs = Agent (agent_of a xs)

-- over the limit, and larger than before
abbrev pub grows : Option ℕ → ℤ → ℤ → Bool
grows None x y = false
grows (Some most) x y = nat_lt most (unsigned_abs y) && nat_lt (unsigned_abs x) (unsigned_abs y)

-- from s to s', at account a and contract c
abbrev pub exceeds : Layer → State → State → ℕ → ℕ → Bool
exceeds y s s' a c = grows (slice_index_or y.limits (listing_place c s.listings) None) (held s (sum_of y.scope a s.accounts) c) (held s' (sum_of y.scope a s.accounts) c)

abbrev pub any_exceeds : List Layer → State → State → ℕ → ℕ → Bool
any_exceeds [] s s' a c = false
any_exceeds (y ∷ ys) s s' a c = exceeds y s s' a c || any_exceeds ys s s' a c

abbrev pub same_scope : Scope → Scope → Bool
same_scope Member Member = true
same_scope Member Agents = false
same_scope Agents Member = false
same_scope Agents Agents = true

-- the topmost layer of the scope has a new limit at a contract's place
abbrev pub limited : Scope → ℕ → ℕ → List Layer → List Layer
limited w i most [] = []
limited w i most (y ∷ ys) = cond (same_scope w y.scope) (record { scope = y.scope; limits = slice_set y.limits i (Some most) } ∷ ys) (y ∷ limited w i most ys)
