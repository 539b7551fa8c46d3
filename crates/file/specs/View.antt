-- What has been read of a file.
use Rattle.std.specs.Prelude.{false, List, []}
use Rattle.calendar.specs.declared.load.Load.{Load}
use Rattle.contracts.specs.Table.{Table}
use Rattle.contracts.specs.Views.{empty_table}
use Rattle.contracts.specs.declared.contract.Instrument.{Instrument}
use Rattle.books.specs.declared.entry.Account.{Account}
use Rattle.books.specs.declared.entry.Call.{Call}
use Rattle.opening.specs.declared.rows.Limit.{Limit}
use Rattle.opening.specs.declared.rows.Opened.{Opened}
use Rattle.tariff.specs.Said.{Said}
use Rattle.tariff.specs.Views.{no_rows}

-- the contract table, with the instruments and their load profiles; the tariff; accounts, opening positions and limits;
-- the calls
pub record View : Type 0 where
  pub instruments : List (Instrument Load)
  pub table : Table
  pub tariff : Said
  pub accounts : List Account
  pub rows : List Opened
  pub limits : List Limit
  pub calls : List Call

abbrev pub with_tariff : View → List (Instrument Load) → Table × Said → View
with_tariff v is p = record { instruments = is; table = p.0; tariff = p.1; accounts = v.accounts; rows = v.rows; limits = v.limits; calls = v.calls }

abbrev pub with_opening : View → List Account → List Opened → List Limit → View
with_opening v xs rs ys = record { instruments = v.instruments; table = v.table; tariff = v.tariff; accounts = xs; rows = rs; limits = ys; calls = v.calls }

abbrev pub with_calls : View → List Call → View
with_calls v cs = record { instruments = v.instruments; table = v.table; tariff = v.tariff; accounts = v.accounts; rows = v.rows; limits = v.limits; calls = cs }

-- nothing, on 1 January 2000
abbrev pub no_view : View
no_view = record { instruments = []; table = empty_table 0 1; tariff = no_rows false; accounts = []; rows = []; limits = []; calls = [] }
