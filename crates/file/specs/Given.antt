-- What the tables of a file give.
use Rattle.std.specs.Prelude.{◌≡◌, ◌⊎◌, Ok, Err, vec_items, Result}
use Rattle.opening.specs.Views.{listings_of}
use Rattle.tariff.specs.Views.{table_in, said_of}
use Rattle.file.specs.View.{View, no_view}
use Rattle.file.specs.declared.fault.Fault.{Fault}
use Rattle.file.specs.declared.fault.Unread.{Unread}
use Rattle.file.specs.declared.fault.Unread.TheVariants.{Refused, NoMemory}
use Rattle.file.specs.declared.tables.Tables.{Tables}

abbrev pub given : Tables → View
given t = record { instruments = vec_items t.tariff.draft.contracts.instruments.rows; table = table_in t.tariff.draft; tariff = said_of t.tariff.draft; accounts = vec_items t.opening.accounts.rows; rows = vec_items t.opening.rows.rows; limits = vec_items t.opening.limits.rows; calls = vec_items t.calls.rows }

-- the opening is over the contracts of the tariff, on their date
abbrev pub Matched : Tables → Type 0
Matched t = (vec_items t.opening.listings ≡ listings_of (table_in t.tariff.draft)) × (t.opening.date.number ≡ (table_in t.tariff.draft).date)

-- the tables are what the lines say; or the file is refused, and every table is zero. Without memory they are zero, or
-- as they were
abbrev pub Filled : Result View Fault → Result (Unit {0}) Unread → Tables → Tables → Type 0
Filled s (Ok u) before now = (s ≡ Ok (given now)) × Matched now
Filled s (Err (Refused q)) before now = (s ≡ Err q) × (given now ≡ no_view) × Matched now
Filled s (Err NoMemory) before now = (given now ≡ no_view) ⊎ (now ≡ before)
