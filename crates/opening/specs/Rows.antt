-- Opening positions and limits, by the numbers of accounts and contracts.
use Rattle.std.specs.Prelude.{ℕ, Bool, false, cond, ◌&&◌, ◌||◌, List, [], ◌∷◌, Some, None, Option, ◌==◌}
use Rattle.terms.specs.Amounts.{no_amount}
use Rattle.terms.specs.declared.amounts.Amount.{Amount}
use Rattle.opening.specs.declared.rows.Limit.{Limit}
use Rattle.opening.specs.declared.rows.Opened.{Opened}

-- is the row that of account a in contract c?
abbrev pub is_of : ℕ → ℕ → Opened → Bool
is_of a c r = r.account == a && r.contract == c

-- is there one?
abbrev pub is_opened : List Opened → ℕ → ℕ → Bool
is_opened [] a c = false
is_opened (r ∷ rs) a c = is_of a c r || is_opened rs a c

-- what account a opens with in contract c: nothing where there is no row
abbrev pub amount_in : List Opened → ℕ → ℕ → Amount
amount_in [] a c = no_amount
amount_in (r ∷ rs) a c = cond (is_of a c r) r.amount (amount_in rs a c)

-- the same, with no amount where there is no row
abbrev pub opened_in : List Opened → ℕ → ℕ → Option Amount
opened_in [] a c = None
opened_in (r ∷ rs) a c = cond (is_of a c r) (Some r.amount) (opened_in rs a c)

-- has contract c limits?
abbrev pub is_limited : ℕ → List Limit → Bool
is_limited c [] = false
is_limited c (y ∷ ys) = y.contract == c || is_limited c ys
