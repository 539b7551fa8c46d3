-- What a journal comes to.
use Rattle.std.specs.Prelude.{ℕ, Bool, true, false, cond, ◌&&◌, List, [], ◌∷◌, pos, ◌*ℤ◌, ◌==◌}
use Rattle.terms.specs.Amounts.{no_amount, amount_plus}
use Rattle.terms.specs.declared.amounts.Amount.{Amount}
use Rattle.books.specs.declared.entry.Entry.{Entry}
use Rattle.books.specs.declared.entry.Trade.{Trade}

-- how many entries a journal takes
abbrev pub room : ℕ
room = 4096

abbrev pub blank : Entry
blank = record { trade = record { account = 0; contract = 0; quantity = pos 0; price = pos 0 }; stands = false }

-- a value is quantity × price
abbrev pub amount_of : Trade → Amount
amount_of t = record { quantity = t.quantity; value = t.quantity *ℤ t.price }

-- does the entry stand, for account a in contract c?
abbrev pub counts : ℕ → ℕ → Entry → Bool
counts a c e = e.stands && (e.trade.account == a && e.trade.contract == c)

-- what the entries that stand come to, for account a in contract c
abbrev pub standing : List Entry → ℕ → ℕ → Amount
standing [] a c = no_amount
standing (e ∷ es) a c = amount_plus (cond (counts a c e) (amount_of e.trade) no_amount) (standing es a c)

abbrev pub entered : Trade → Entry
entered t = record { trade = t; stands = true }

abbrev pub cancelled : Entry → Entry
cancelled e = record { trade = e.trade; stands = false }

abbrev pub moved : ℕ → Entry → Entry
moved a e = record { trade = record { account = a; contract = e.trade.contract; quantity = e.trade.quantity; price = e.trade.price }; stands = e.stands }
