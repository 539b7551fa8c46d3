-- How the cells follow the journal.
use Rattle.std.specs.Prelude.{◌≡◌, ℕ, ◌<◌, true, List, slice_index_or}
use Rattle.terms.specs.Amounts.{no_amount}
use Rattle.books.specs.Journal.{blank, standing}
use Rattle.books.specs.declared.entry.Account.{Account}
use Rattle.books.specs.declared.entry.Cell.{Cell}
use Rattle.books.specs.declared.entry.Entry.{Entry}
use Rattle.books.specs.declared.entry.Listing.{Listing}
use Rattle.ledger.specs.Places.{is_listed, amount_at, trades}

-- the entries in use are of accounts and contracts of the book
abbrev pub AllListed : List Account → List Listing → ℕ → List Entry → Type 0
AllListed xs cs used es = (k : ℕ) → k < used → is_listed xs cs (slice_index_or es k blank).trade.account (slice_index_or es k blank).trade.contract ≡ true

-- what was traded is what the entries that stand come to
abbrev pub Tied : List Account → List Listing → List Cell → List Entry → Type 0
Tied xs cs ys es = (a c : ℕ) → is_listed xs cs a c ≡ true → amount_at xs cs (trades ys) a c ≡ standing es a c

-- nothing was traded
abbrev pub Untraded : List Cell → Type 0
Untraded ys = (i : ℕ) → slice_index_or (trades ys) i no_amount ≡ no_amount
