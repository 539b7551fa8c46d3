-- What the tables show, and what they can bear.
use Rattle.std.specs.Prelude.{◌≡◌, ℕ, Bool, true, false, cond, ◌&&◌, ℤ, ◌+ℤ◌, List, Some, None, Ok, Err, vec_items, Option, Result, slice_set}
use Rattle.terms.specs.Amounts.{amount_plus, amount_minus}
use Rattle.terms.specs.declared.amounts.Amount.{Amount}
use Rattle.terms.specs.declared.refusal.Refusal.{Refusal}
use Rattle.terms.specs.declared.refusal.Refusal.TheVariants.{NotInBook}
use Rattle.books.specs.Cells.{trades_within}
use Rattle.books.specs.Limits.{held_by}
use Rattle.books.specs.State.{Holding, is_listing}
use Rattle.books.specs.declared.entry.Account.{Account}
use Rattle.books.specs.declared.entry.Whose.{Whose}
use Rattle.books.specs.Shifts.{Movement}
use Rattle.ledger.specs.Places.{place_of, cell_at, openings, trades, amount_at, is_listed}
use Rattle.ledger.specs.declared.tables.Tables.{Tables}

abbrev pub holding_of : Tables → Holding
holding_of t = record { accounts = vec_items t.accounts; listings = vec_items t.listings; cell = cell_at (vec_items t.accounts) (vec_items t.listings) (vec_items t.cells) }

-- by account and contract
abbrev pub opening : Tables → ℕ → ℕ → Amount
opening t a c = amount_at (vec_items t.accounts) (vec_items t.listings) (openings (vec_items t.cells)) a c

abbrev pub traded : Tables → ℕ → ℕ → Amount
traded t a c = amount_at (vec_items t.accounts) (vec_items t.listings) (trades (vec_items t.cells)) a c

abbrev pub is_in : Tables → ℕ → ℕ → Bool
is_in t a c = is_listed (vec_items t.accounts) (vec_items t.listings) a c

-- the cell is there, and within its range with an amount more
abbrev pub bears_at : Tables → ℕ → ℕ → Amount → Bool
bears_at t a c by = cond (is_in t a c) (trades_within (opening t a c) (amount_plus (traded t a c) by)) false

abbrev pub bears_by : Tables → Option ℕ → ℕ → Amount → Bool
bears_by t None c by = true
bears_by t (Some a) c by = bears_at t a c by

-- each account that an amount goes out of or into bears it
abbrev pub bears : Tables → Movement → Bool
bears t h = bears_by t h.from h.contract (amount_minus h.amount) && bears_by t h.to h.contract h.amount

-- what was traded, by place, with an amount more where it goes
abbrev pub posted : Tables → Option ℕ → ℕ → Amount → List Amount
posted t None c by = trades (vec_items t.cells)
posted t (Some a) c by = slice_set (trades (vec_items t.cells)) (place_of (vec_items t.accounts) (vec_items t.listings) a c) (amount_plus (traded t a c) by)

-- all but what was traded is as it was
pub record Kept (t u : Tables) : Type 0 where
  pub date : u.date ≡ t.date
  pub accounts : u.accounts ≡ t.accounts
  pub listings : u.listings ≡ t.listings
  pub opening : openings (vec_items u.cells) ≡ openings (vec_items t.cells)

-- ---- sums
abbrev pub nobody : Account
nobody = record { number = 0; agent = 0 }

-- the net position of account a in contract c
abbrev pub net_of : Tables → ℕ → ℕ → ℤ
net_of t a c = (opening t a c).quantity +ℤ (traded t a c).quantity

abbrev pub held_in : Tables → Whose → ℕ → Result ℤ Refusal
held_in t w c = cond (is_listing c (vec_items t.listings)) (Ok (held_by w (λ a. net_of t a c) (vec_items t.accounts))) (Err NotInBook)
