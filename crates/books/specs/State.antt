-- What a book is: its opening, its journal and its limits. What holdings show of it.
use Rattle.std.specs.Prelude.{◌≡◌, ℕ, suc, Bool, true, false, cond, not, ◌&&◌, ◌||◌, List, [], ◌∷◌, Option, ◌==◌}
use Rattle.terms.specs.declared.amounts.Amount.{Amount}
use Rattle.contracts.specs.declared.kind.Kind as kinds
use Rattle.contracts.specs.declared.kind.Kind.TheVariants as kind
use Rattle.books.specs.declared.entry.Account.{Account}
use Rattle.books.specs.declared.entry.Cell.{Cell}
use Rattle.books.specs.declared.entry.Entry.{Entry}
use Rattle.books.specs.declared.entry.Listing.{Listing}
use Rattle.books.specs.declared.entry.Scope.{Scope}
use Rattle.books.specs.Cells.{opens_within, trades_within}
use Rattle.books.specs.Journal.{standing}

-- one layer of limits, a limit for each contract by its place; contracts without one are not limited
pub record Layer : Type 0 where
  pub scope : Scope
  pub limits : List (Option ℕ)

-- the opening amounts go by account and contract; the topmost layer of limits is first
pub record State : Type 0 where
  pub date : ℕ
  pub accounts : List Account
  pub listings : List Listing
  pub opening : ℕ → ℕ → Amount
  pub journal : List Entry
  pub layers : List Layer

-- ---- accounts and contracts, by their numbers
abbrev pub is_account : ℕ → List Account → Bool
is_account a [] = false
is_account a (x ∷ xs) = x.number == a || is_account a xs

abbrev pub is_listing : ℕ → List Listing → Bool
is_listing c [] = false
is_listing c (x ∷ xs) = x.number == c || is_listing c xs

abbrev pub account_place : ℕ → List Account → ℕ
account_place a [] = 0
account_place a (x ∷ xs) = cond (x.number == a) 0 (suc (account_place a xs))

abbrev pub listing_place : ℕ → List Listing → ℕ
listing_place c [] = 0
listing_place c (x ∷ xs) = cond (x.number == c) 0 (suc (listing_place c xs))

abbrev pub agent_of : ℕ → List Account → ℕ
agent_of a [] = 0
agent_of a (x ∷ xs) = cond (x.number == a) x.agent (agent_of a xs)

abbrev pub kind_of : ℕ → List Listing → kinds.Kind
kind_of c [] = kind.Option
kind_of c (x ∷ xs) = cond (x.number == c) x.kind (kind_of c xs)

-- no number twice
abbrev pub are_apart : List Account → Bool
are_apart [] = true
are_apart (x ∷ xs) = not (is_account x.number xs) && are_apart xs

-- ---- cells
-- what account a has of contract c
abbrev pub cell_of : State → ℕ → ℕ → Cell
cell_of s a c = record { opening = s.opening a c; traded = standing s.journal a c }

-- what holdings show
pub record Holding : Type 0 where
  pub accounts : List Account
  pub listings : List Listing
  pub cell : ℕ → ℕ → Cell

-- a cell is within its range, by the type of the contract
abbrev pub cell_within : kinds.Kind → Cell → Bool
cell_within k x = opens_within k x.opening && trades_within x.opening x.traded

-- the cells follow from opening and journal; accounts go by their numbers
pub record Follows (h : Holding) (s : State) : Type 0 where
  pub accounts : h.accounts ≡ s.accounts
  pub listings : h.listings ≡ s.listings
  pub cells : (a c : ℕ) → is_account a s.accounts ≡ true → is_listing c s.listings ≡ true → h.cell a c ≡ cell_of s a c
  pub apart : are_apart s.accounts ≡ true
