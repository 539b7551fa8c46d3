-- How a book opens.
use Rattle.std.specs.Prelude.{◌≡◌, ℕ, true, [], Option, vec_items}
use Rattle.std.specs.Option.{unwrap_or}
use Rattle.terms.specs.Amounts.{no_amount}
use Rattle.terms.specs.declared.amounts.Amount.{Amount}
use Rattle.books.specs.State.{State, is_account, is_listing}
use Rattle.books.specs.declared.entry.Cell.{Cell}
use Rattle.opening.specs.Rows.{amount_in}
use Rattle.opening.specs.declared.opening.Opening.{Opening}

-- with the accounts and contracts of an opening, and the amounts that its rows give; without entries or limits
pub record Opens (o : Opening) (s : State) : Type 0 where
  pub date : s.date ≡ o.date.number
  pub accounts : s.accounts ≡ vec_items o.accounts.rows
  pub listings : s.listings ≡ vec_items o.listings
  pub opening : (a c : ℕ) → is_account a s.accounts ≡ true → is_listing c s.listings ≡ true → s.opening a c ≡ amount_in (vec_items o.rows.rows) a c
  pub journal : s.journal ≡ []
  pub layers : s.layers ≡ []

-- a cell that opens with an amount, or with nothing
abbrev pub untraded : Option Amount → Cell
untraded x = record { opening = unwrap_or x no_amount; traded = no_amount }
