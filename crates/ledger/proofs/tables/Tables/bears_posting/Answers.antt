use Rattle.std.proofs.Common.{◌≡◌, ℕ, Bool, Some, None, Option, MatchOption, rules}
use Rattle.std.specs.Bool.{IsTrue}
use Rattle.ledger.specs.Views.{bears_at, bears_by}
use Rattle.ledger.specs.declared.tables.Tables.{Tables}
use Rattle.terms.specs.declared.amounts.Amount.{Amount}
use Rattle.ledger.proofs.tables.Tables.bears_posting.Goals as goal

asked : (t : Tables) (o : Option ℕ) (k : ℕ) (by : Amount) (q : Bool) {P : ℕ → Type 0} → MatchOption o (IsTrue q) P → ((a : ℕ) → P a → q ≡ bears_at t a k by) → q ≡ bears_by t o k by
asked t None k by q h f = h
asked t (Some a) k by q h f = f a h

pub returns : goal.returns
returns c = asked c.args.self.now c.args.posting.account c.args.posting.contract c.args.posting.amount c.is_none_or.result c.is_none_or.ensures (λ a h. search rules)
