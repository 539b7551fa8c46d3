-- What stands at the places of accounts and contracts. A row of places, n of them, is an account's.
use Rattle.std.specs.Prelude.{◌≡◌, ℕ, ◌+◌, ◌*◌, ◌≤◌, true, List, None, Option, slice_index_or}
use Rattle.std.specs.Option.{unwrap_or}
use Rattle.terms.specs.Amounts.{no_amount}
use Rattle.terms.specs.declared.amounts.Amount.{Amount}
use Rattle.books.specs.Cells.{opens_within}
use Rattle.books.specs.State.{is_account, is_listing, account_place, listing_place, kind_of}
use Rattle.books.specs.declared.entry.Account.{Account}
use Rattle.books.specs.declared.entry.Listing.{Listing}

-- the place of account a in contract c
abbrev pub place_of : List Account → List Listing → ℕ → ℕ → ℕ → ℕ
place_of xs ls n a c = account_place a xs * n + listing_place c ls

abbrev pub Known : List Account → List Listing → ℕ → ℕ → Type 0
Known xs ls a c = (is_account a xs ≡ true) × (is_listing c ls ≡ true)

-- at each place stands what is said of its account and contract
abbrev pub ByPlace : {X : Type 0} → List Account → List Listing → ℕ → List X → X → (ℕ → ℕ → X) → Type 0
ByPlace xs ls n ys d said = (a c : ℕ) → Known xs ls a c → slice_index_or ys (place_of xs ls n a c) d ≡ said a c

-- and from some place on nothing
abbrev pub BlankFrom : {X : Type 0} → ℕ → List X → X → Type 0
BlankFrom i ys d = (k : ℕ) → i ≤ k → slice_index_or ys k d ≡ d

-- amounts keep to the types of their contracts
abbrev pub AllWithin : List Account → List Listing → ℕ → List (Option Amount) → Type 0
AllWithin xs ls n ys = (a c : ℕ) → Known xs ls a c → opens_within (kind_of c ls) (unwrap_or (slice_index_or ys (place_of xs ls n a c) None) no_amount) ≡ true
