-- A layer of limits over a book.
use Rattle.std.specs.Prelude.{ℕ, Bool, false, cond, ◌||◌, List, [], ◌∷◌, length, take, Some, None, Ok, Err, vec_items, Option, Result, slice_set}
use Rattle.terms.specs.declared.refusal.Refusal.{Refusal}
use Rattle.terms.specs.declared.refusal.Refusal.TheVariants.{OverLimit}
use Rattle.books.specs.declared.entry.Call.{Call}
use Rattle.books.specs.declared.entry.Call.TheVariants.{Enter, Cancel, Transfer, LimitMember, LimitAgents}
use Rattle.books.specs.declared.entry.Listing.{Listing}
use Rattle.books.specs.declared.entry.Scope.{Scope}
use Rattle.books.specs.declared.entry.Scope.TheVariants.{Member, Agents}
use Rattle.books.specs.Answers.{Place, with_layers}
use Rattle.books.specs.Limits.{exceeds}
use Rattle.books.specs.State.{State, Layer, listing_place}
use Rattle.limits.specs.declared.scope.NewLimit.{NewLimit}
use Rattle.limits.specs.declared.table.LimitTable.{LimitTable}
use Rattle.limits.specs.declared.table.Limits.{Limits}

-- all but the first
abbrev pub past : {X : Type 0} → List X → List X
past [] = []
past (x ∷ xs) = xs

-- the layer of a table's limits; records past the contracts that are listed are of none
abbrev pub layer_of : Scope → LimitTable → List Listing → Layer
layer_of w t xs = record { scope = w; limits = take (length xs) (vec_items t.limits) }

-- a book under one more layer
abbrev pub layered : Layer → State → State
layered y s = with_layers s (y ∷ s.layers)

-- a book under a layer of a table's limits
abbrev pub under_limit : Scope → LimitTable → State → State
under_limit w t s = layered (layer_of w t s.listings) s

-- a book under an agent limit under a member limit
abbrev pub under_limits : Limits → State → State
under_limits l s = under_limit Member l.members (under_limit Agents l.agents s)

-- a book without its topmost layer
abbrev pub uncovered : State → State
uncovered s = with_layers s (past s.layers)

-- does the layer itself refuse one of the places?
abbrev pub own_over : Layer → State → State → List Place → Bool
own_over y s s' [] = false
own_over y s s' (p ∷ ps) = exceeds y s s' p.account p.contract || own_over y s s' ps

-- the answer of the book below, and then the layer's own refusal
abbrev pub layer_answer : Result ℕ Refusal → Bool → Result ℕ Refusal
layer_answer (Err e) over = Err e
layer_answer (Ok n) over = cond over (Err OverLimit) (Ok n)

-- the layer with a new limit for a contract
abbrev pub with_limit : Layer → List Listing → ℕ → ℕ → Layer
with_limit y xs c most = record { scope = y.scope; limits = slice_set y.limits (listing_place c xs) (Some most) }

-- the limit that a call sets, if it is one of the scope
abbrev pub limit_in : Scope → Call → Option NewLimit
limit_in w (Enter t) = None
limit_in w (Cancel k) = None
limit_in w (Transfer k a) = None
limit_in Member (LimitMember c most) = Some (record { contract = c; most = most })
limit_in Agents (LimitMember c most) = None
limit_in Member (LimitAgents c most) = None
limit_in Agents (LimitAgents c most) = Some (record { contract = c; most = most })
