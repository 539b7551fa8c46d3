-- What calls move between accounts.
use Rattle.std.specs.Prelude.{ℕ, Bool, false, cond, Some, None, Option, ◌==◌}
use Rattle.terms.specs.Amounts.{no_amount, amount_plus, amount_minus}
use Rattle.terms.specs.declared.amounts.Amount.{Amount}
use Rattle.books.specs.declared.entry.Call.{Call}
use Rattle.books.specs.declared.entry.Call.TheVariants.{Enter, Cancel, Transfer, LimitMember, LimitAgents}
use Rattle.books.specs.declared.entry.Entry.{Entry}
use Rattle.books.specs.declared.entry.Shift.{Shift}
use Rattle.books.specs.Answers.{entry_at}
use Rattle.books.specs.Journal.{blank, amount_of}
use Rattle.books.specs.State.{State}

-- an amount of a contract, out of an account, into one, or both
pub record Movement : Type 0 where
  pub contract : ℕ
  pub amount : Amount
  pub from : Option ℕ
  pub to : Option ℕ

-- what a shift moves
abbrev pub movement_of : Shift → Movement
movement_of h = record { contract = h.contract; amount = h.amount; from = h.from; to = h.to }

-- what a call moves, where its entry is as given
abbrev pub shift_by : Entry → Call → Movement
shift_by e (Enter t) = record { contract = t.contract; amount = amount_of t; from = None; to = Some t.account }
shift_by e (Cancel k) = record { contract = e.trade.contract; amount = amount_of e.trade; from = Some e.trade.account; to = None }
shift_by e (Transfer k a) = record { contract = e.trade.contract; amount = amount_of e.trade; from = Some e.trade.account; to = Some a }
shift_by e (LimitMember c most) = record { contract = c; amount = no_amount; from = None; to = None }
shift_by e (LimitAgents c most) = record { contract = c; amount = no_amount; from = None; to = None }

-- the entry that a call is about
abbrev pub entry_for : State → Call → Entry
entry_for s (Enter t) = blank
entry_for s (Cancel k) = entry_at s k
entry_for s (Transfer k a) = entry_at s k
entry_for s (LimitMember c most) = blank
entry_for s (LimitAgents c most) = blank

abbrev pub shift_of : State → Call → Movement
shift_of s call = shift_by (entry_for s call) call

abbrev pub is_at : Option ℕ → ℕ → Bool
is_at None a = false
is_at (Some x) a = x == a

-- what it adds to the amount of account a in contract c
abbrev pub shifts : Movement → ℕ → ℕ → Amount
shifts h a c = cond (h.contract == c) (amount_plus (cond (is_at h.to a) h.amount no_amount) (cond (is_at h.from a) (amount_minus h.amount) no_amount)) no_amount
