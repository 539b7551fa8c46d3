-- What an opening of the code says.
use Rattle.std.specs.Prelude.{ℕ, min, List, [], ◌∷◌, ◌++◌, map, vec_items}
use Rattle.std.proofs.Math.Nat.{min-le_right}
use Rattle.std.proofs.Common.{suc-le-suc}
use Rattle.std.specs.Option.{unwrap_or}
use Rattle.days.specs.declared.day.Day.{Day}
use Rattle.contracts.specs.Table.{Instr, Listed, Table, kind_in}
use Rattle.contracts.specs.declared.kind.Kind.TheVariants as kind
use Rattle.books.specs.declared.entry.Account.{Account}
use Rattle.books.specs.declared.entry.Listing.{Listing}
use Rattle.opening.specs.declared.opening.Opening.{Opening}
use Rattle.opening.specs.declared.rows.Limit.{Limit}
use Rattle.opening.specs.declared.rows.Opened.{Opened}

-- the day of a number; the last day, where the number is none's
abbrev pub day_numbered : ℕ → Day
day_numbered n = record { number = min n 36524; within = suc-le-suc (min-le_right n 36524) }

-- a contract of a table, with the type of its instrument
abbrev pub listing_of : List Instr → Listed → Listing
listing_of is c = record { number = c.number; kind = unwrap_or (kind_in is c.instrument) kind.Option; registration = day_numbered c.registration }

-- the contracts of a table, in its order
abbrev pub listings_of : Table → List Listing
listings_of t = map (listing_of t.instruments) t.contracts

pub record Said : Type 0 where
  pub date : ℕ
  pub listings : List Listing
  pub accounts : List Account
  pub rows : List Opened
  pub limits : List Limit

abbrev pub opening_of : Opening → Said
opening_of o = record { date = o.date.number; listings = vec_items o.listings; accounts = vec_items o.accounts.rows; rows = vec_items o.rows.rows; limits = vec_items o.limits.rows }

-- nothing but the contracts of a table
abbrev pub opened_on : Table → Said
opened_on t = record { date = t.date; listings = listings_of t; accounts = []; rows = []; limits = [] }

abbrev pub plus_account : Said → Account → Said
plus_account s x = record { date = s.date; listings = s.listings; accounts = s.accounts ++ x ∷ []; rows = s.rows; limits = s.limits }

abbrev pub plus_row : Said → Opened → Said
plus_row s r = record { date = s.date; listings = s.listings; accounts = s.accounts; rows = s.rows ++ r ∷ []; limits = s.limits }

abbrev pub plus_limit : Said → Limit → Said
plus_limit s y = record { date = s.date; listings = s.listings; accounts = s.accounts; rows = s.rows; limits = s.limits ++ y ∷ [] }
