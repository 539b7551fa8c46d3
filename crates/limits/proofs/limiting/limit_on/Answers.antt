use Rattle.std.proofs.Common.{◌≡◌, ℕ, eqb, Bool, true, false, cond, List, Some, None, Option, refl, ap, ◌∙◌, MatchOption, rules}
use Rattle.std.specs.List.{find}
use Rattle.std.specs.Option.{option_map, IsSomeAnd}
use Rattle.std.proofs.lemmas.List.Recursion.{same_from_clauses}
use Rattle.books.specs.declared.entry.Scope.{Scope}
use Rattle.opening.specs.declared.rows.Limit.{Limit}
use Rattle.limits.specs.Openings.{most_in, limit_on}
use Rattle.limits.proofs.limiting.limit_on.Goals as goal

mapped : {A B : Type 0} (f : A → B) (b : Bool) (x : A) (o : Option A) → option_map f (cond b (Some x) o) ≡ cond b (Some (f x)) (option_map f o)
mapped f true x o = refl
mapped f false x o = refl

on_found : (w : Scope) (c : ℕ) (ys : List Limit) → option_map (most_in w) (find (λ (y : Limit). eqb y.contract c) ys) ≡ limit_on w ys c
on_found w c = same_from_clauses (λ ys. option_map (most_in w) (find (λ (y : Limit). eqb y.contract c) ys)) (λ ys. limit_on w ys c) (λ y o. cond (eqb y.contract c) (Some (most_in w y)) o) refl (λ y ys. mapped (most_in w) (eqb y.contract c) y (find (λ (z : Limit). eqb z.contract c) ys)) (λ y ys. refl)

most_of : (w : Scope) (o : Option Limit) (r : Option ℕ) (Q : Limit → ℕ → Type 0) → ((y : Limit) (n : ℕ) → Q y n → n ≡ most_in w y) → MatchOption o (r ≡ None) (λ y. IsSomeAnd r (Q y)) → r ≡ option_map (most_in w) o
most_of w None r Q f h = h
most_of w (Some y) None Q f h = absurd h
most_of w (Some y) (Some n) Q f h = ap Some (f y n h)

pub returns : goal.returns
returns c =
    most_of c.args.scope c.row_on.result c.map.result _ (λ y n k. search rules) c.map.ensures.cases ∙ ap (option_map (most_in c.args.scope)) c.row_on.ensures ∙ on_found c.args.scope c.args.contract c.args.limits.now
