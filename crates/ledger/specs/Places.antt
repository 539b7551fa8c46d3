-- Where the cell of an account in a contract lies.
use Rattle.std.specs.Prelude.{◌≡◌, ℕ, ◌+◌, ◌*◌, Bool, true, cond, ◌&&◌, List, map, length, Option, ◌==◌, slice_index_or}
use Rattle.terms.specs.Amounts.{no_amount, amount_plus}
use Rattle.terms.specs.declared.amounts.Amount.{Amount}
use Rattle.books.specs.Shifts.{is_at}
use Rattle.books.specs.State.{is_account, is_listing, account_place, listing_place, kind_of, cell_within}
use Rattle.books.specs.declared.entry.Account.{Account}
use Rattle.books.specs.declared.entry.Cell.{Cell}
use Rattle.books.specs.declared.entry.Listing.{Listing}

-- a row of cells to an account
abbrev pub place_of : List Account → List Listing → ℕ → ℕ → ℕ
place_of xs cs a c = account_place a xs * length cs + listing_place c cs

abbrev pub amount_at : List Account → List Listing → List Amount → ℕ → ℕ → Amount
amount_at xs cs ys a c = slice_index_or ys (place_of xs cs a c) no_amount

abbrev pub is_listed : List Account → List Listing → ℕ → ℕ → Bool
is_listed xs cs a c = is_account a xs && is_listing c cs

-- what cells hold
abbrev pub openings : List Cell → List Amount
openings ys = map (λ x. x.opening) ys

abbrev pub trades : List Cell → List Amount
trades ys = map (λ x. x.traded) ys

abbrev pub cell_at : List Account → List Listing → List Cell → ℕ → ℕ → Cell
cell_at xs cs ys a c = record { opening = amount_at xs cs (openings ys) a c; traded = amount_at xs cs (trades ys) a c }

abbrev pub CellsWithin : List Account → List Listing → List Cell → Type 0
CellsWithin xs cs ys = (a c : ℕ) → is_listed xs cs a c ≡ true → cell_within (kind_of c cs) (cell_at xs cs ys a c) ≡ true

-- what an account gets, in one contract
abbrev pub goes : Option ℕ → ℕ → Amount → ℕ → ℕ → Amount
goes to d by a c = cond (d == c && is_at to a) by no_amount

-- each cell's amount is the one before and what goes to it
abbrev pub Shifted : List Account → List Listing → (ℕ → ℕ → Amount) → List Amount → List Amount → Type 0
Shifted xs cs by ts us = (a c : ℕ) → is_listed xs cs a c ≡ true → amount_at xs cs us a c ≡ amount_plus (amount_at xs cs ts a c) (by a c)
