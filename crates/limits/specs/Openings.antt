-- The limits that an opening sets.
use Rattle.std.specs.Prelude.{ℕ, cond, List, [], ◌∷◌, map, Some, None, Option, ◌==◌}
use Rattle.books.specs.declared.entry.Listing.{Listing}
use Rattle.books.specs.declared.entry.Scope.{Scope}
use Rattle.books.specs.declared.entry.Scope.TheVariants.{Member, Agents}
use Rattle.books.specs.State.{State, Layer}
use Rattle.opening.specs.declared.rows.Limit.{Limit}
use Rattle.limits.specs.Layers.{layered}

abbrev pub most_in : Scope → Limit → ℕ
most_in Member y = y.member
most_in Agents y = y.agents

-- the limit on the contract numbered c, if it has one
abbrev pub limit_on : Scope → List Limit → ℕ → Option ℕ
limit_on w [] c = None
limit_on w (y ∷ ys) c = cond (y.contract == c) (Some (most_in w y)) (limit_on w ys c)

abbrev pub limits_by : Scope → List Limit → List Listing → List (Option ℕ)
limits_by w ys = map (λ (x : Listing). limit_on w ys x.number)

-- the limits of rows as a layer
abbrev pub layer_by : Scope → List Limit → List Listing → Layer
layer_by w ys xs = record { scope = w; limits = limits_by w ys xs }

-- an agent limit, and over it a member limit
abbrev pub under_both : List Limit → State → State
under_both ys s = layered (layer_by Member ys s.listings) (layered (layer_by Agents ys s.listings) s)
