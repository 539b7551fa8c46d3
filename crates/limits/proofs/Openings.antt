-- A book under the tables that an opening gives is the book under the opening's limits.
use Rattle.std.proofs.Common.{◌≡◌, ℕ, List, length, take, vec_items, Option, sym, ap, ◌∙◌, ap₂, arith}
use Rattle.std.proofs.lemmas.List.{length-map, take_all}
use Rattle.books.specs.State.{State, Layer}
use Rattle.books.specs.declared.entry.Listing.{Listing}
use Rattle.books.specs.declared.entry.Scope.{Scope}
use Rattle.books.specs.declared.entry.Scope.TheVariants.{Member, Agents}
use Rattle.opening.specs.declared.rows.Limit.{Limit}
use Rattle.limits.specs.Layers.{layer_of, layered, under_limits}
use Rattle.limits.specs.Openings.{limit_on, limits_by, layer_by, under_both}
use Rattle.limits.specs.declared.table.LimitTable.{LimitTable}
use Rattle.limits.specs.declared.table.Limits.{Limits}

module _ (ys : List Limit) (xs zs : List Listing) (same : zs ≡ xs) where
  -- a table of the limits of rows is their layer
  same_layer : (w : Scope) (t : LimitTable) → vec_items t.limits ≡ limits_by w ys xs → layer_of w t zs ≡ layer_by w ys zs
  same_layer w t e =
      let n = length-map zs (λ (x : Listing). limit_on w ys x.number) in
      ap (λ (ls : List (Option ℕ)). record { scope = w; limits = ls })
      (ap (take (length zs)) (e ∙ ap (limits_by w ys) (sym same)) ∙ take_all (length zs) (limits_by w ys zs) (omega (arith, n)))

pub under_opening : (l : Limits) (ys : List Limit) (xs : List Listing) (s : State) → vec_items l.members.limits ≡ limits_by Member ys xs → vec_items l.agents.limits ≡ limits_by Agents ys xs → s.listings ≡ xs → under_limits l s ≡ under_both ys s
under_opening l ys xs s e f same = ap₂ (λ (x y : Layer). layered x (layered y s)) (same_layer ys xs s.listings same Member l.members e) (same_layer ys xs s.listings same Agents l.agents f)
