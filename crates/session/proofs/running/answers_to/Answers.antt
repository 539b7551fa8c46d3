use Rattle.std.proofs.Common.{◌≡◌, ℕ, List, [], IfOk, Ok, Err, vec_items, Result, ap, ◌∙◌}
use Rattle.terms.specs.declared.refusal.Refusal.{Refusal}
use Rattle.books.specs.Answers.{answers}
use Rattle.books.specs.State.{State}
use Rattle.books.specs.declared.entry.Call.{Call}
use Rattle.books.specs.declared.entry.Scope.TheVariants.{Member, Agents}
use Rattle.opening.specs.declared.opening.Opening.{Opening}
use Rattle.ledger.specs.Meaning.{state_by}
use Rattle.ledger.specs.Starts.{Opens}
use Rattle.ledger.specs.declared.ground.Ground.{Ground}
use Rattle.limits.proofs.Openings.{under_opening}
use Rattle.limits.specs.Openings.{limits_by}
use Rattle.limits.specs.declared.table.Limits.{Limits}
use Rattle.session.specs.Sessions.{opened, Answered}
use Rattle.session.proofs.running.answers_to.Goals as goal

told : {V E : Type 0} (items : V → List (Result ℕ Refusal)) (r : Result V E) (g : Ground) (o : Opening) (l : Limits) (calls : List Call)
    → Opens o (state_by g.tables []) → vec_items l.members.limits ≡ limits_by Member (vec_items o.limits.rows) (vec_items o.listings) → vec_items l.agents.limits ≡ limits_by Agents (vec_items o.limits.rows) (vec_items o.listings)
    → IfOk r (λ v. items v ≡ answers (opened g l) calls) → IfOk r (λ v. Answered o calls (items v))
told items (Ok v) g o l calls h e f t = record { book = state_by g.tables []; opens = h; answered = t ∙ ap (λ (s : State). answers s calls) (under_opening l (vec_items o.limits.rows) (vec_items o.listings) (state_by g.tables []) e f h.listings) }
told items (Err x) g o l calls h e f t = tt

pub returns : goal.returns
returns c =
    told vec_items c.drive_on.result c.in_ok-ground.ground c.args.opening.now c.in_ok-limits.limits c.args.calls.now
    c.in_ok-ground.ensures c.in_ok-limits.ensures.members c.in_ok-limits.ensures.agents c.drive_on.ensures
