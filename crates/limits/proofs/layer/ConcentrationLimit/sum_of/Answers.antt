use Rattle.std.proofs.Common.{◌≡◌, ℕ, eqb, Some, None, Option, unwrap_or, sym, ap, ◌∙◌, MatchOption, rules}
use Rattle.std.specs.List.{find}
use Rattle.std.specs.Option.{option_map}
use Rattle.books.specs.declared.entry.Account.{Account}
use Rattle.books.specs.declared.entry.Scope.{Scope}
use Rattle.books.specs.declared.entry.Whose.TheVariants.{Agent}
use Rattle.books.specs.Limits.{sum_of}
use Rattle.books.proofs.Rows.{agent_told}
use Rattle.limits.proofs.layer.ConcentrationLimit.sum_of.Goals as goal

-- the agent of the account that was found, or 0
agent_or : (o : Option Account) (n : ℕ) (Q : Account → Type 0) → ((x : Account) → Q x → n ≡ x.agent) → MatchOption o (n ≡ 0) Q → n ≡ unwrap_or (option_map (λ x. x.agent) o) 0
agent_or None n Q f h = h
agent_or (Some x) n Q f h = f x h

pub returns-in-Agents : goal.returns-in-Agents
returns-in-Agents g c =
    let a = c.args.account in
    let xs = (g.B.Holdings.holding c.args.self.now.below.now).accounts in
    let found = agent_or c.row_of.result c.map_or.result _ (λ x k. search rules) c.map_or.ensures in
    ap Agent (found ∙ ap (λ (o : Option Account). unwrap_or (option_map (λ x. x.agent) o) 0) (c.row_of.ensures ∙ ap (find (λ x. eqb x.number a)) c.accounts.ensures) ∙ sym (agent_told a xs))
    ∙ ap (λ (w : Scope). sum_of w a xs) c.in-Agents.ensures
