-- The cells of a book that are not all zero.
use Rattle.std.specs.Prelude.{ℕ, Bool, cond, ◌&&◌, List, Some, None, Option, ◌==◌, unsigned_abs}
use Rattle.std.specs.Option.{option_to_list}
use Rattle.std.specs.List.{flat_map}
use Rattle.terms.specs.declared.amounts.Amount.{Amount}
use Rattle.books.specs.State.{State, cell_of}
use Rattle.books.specs.declared.entry.Account.{Account}
use Rattle.books.specs.declared.entry.Cell.{Cell}
use Rattle.books.specs.declared.entry.Listing.{Listing}
use Rattle.desk.specs.declared.row.Row.{Row}

abbrev pub is_zero : Amount → Bool
is_zero x = unsigned_abs x.quantity == 0 && unsigned_abs x.value == 0

-- a cell with its account and contract, unless it is all zero
abbrev pub row_of : ℕ → ℕ → Cell → Option Row
row_of a c x = cond (is_zero x.opening && is_zero x.traded) None (Some (record { account = a; contract = c; cell = x }))

-- those of one account, contract by contract
abbrev pub rows_in : State → ℕ → List Listing → List Row
rows_in s a = flat_map (λ (y : Listing). option_to_list (row_of a y.number (cell_of s a y.number)))

-- those of some accounts, one after another
abbrev pub rows_by : State → List Account → List Row
rows_by s = flat_map (λ (x : Account). rows_in s x.number s.listings)

abbrev pub rows_of : State → List Row
rows_of s = rows_by s s.accounts
