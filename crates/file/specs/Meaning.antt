-- What the code has read, as lists and numbers.
use Rattle.std.specs.Prelude.{◌≡◌, ℕ, Bool, Ok, Err, vec_items, Result, ⊤}
use Rattle.days.specs.declared.day.Day.{Day}
use Rattle.contracts.specs.Rows.{said_in}
use Rattle.contracts.specs.Table.{Listed}
use Rattle.contracts.specs.declared.contract.Terms.{Terms}
use Rattle.tariff.specs.Settlements.{is_final}
use Rattle.tariff.specs.Views.{table_in, said_of}
use Rattle.tariff.specs.declared.rows.Settlement.{Settlement}
use Rattle.terms.specs.declared.refusal.Refusal.{Refusal}
use Rattle.calendar.specs.declared.load.Load.{Load}
use Rattle.tariff.specs.declared.draft.Draft.{Draft}
use Rattle.file.specs.View.{View, no_view, with_tariff}
use Rattle.file.specs.declared.reading.Reading.{Reading}

abbrev pub view_of : Reading → View
view_of r = record { instruments = vec_items r.draft.contracts.instruments.rows; table = table_in r.draft; tariff = said_of r.draft; accounts = vec_items r.opening.accounts.rows; rows = vec_items r.opening.rows.rows; limits = vec_items r.opening.limits.rows; calls = vec_items r.calls.rows }

-- the row is taken, and this has been read then; or it is refused
abbrev pub Added : Result View Refusal → Result (Unit {0}) Refusal → View → Type 0
Added s (Ok u) v = s ≡ Ok v
Added s (Err e) v = s ≡ Err e

-- what a row leaves as it was, refused or not: a row of the opening
abbrev pub DraftKept : Reading → Reading → Type 0
DraftKept r s = s.draft ≡ r.draft

-- a row of the tariff
abbrev pub ContractsKept : Reading → Reading → Type 0
ContractsKept r s = (s.draft.contracts ≡ r.draft.contracts) × (s.opening ≡ r.opening)

-- a call
abbrev pub TablesKept : Reading → Reading → Type 0
TablesKept r s = (s.draft ≡ r.draft) × (s.opening ≡ r.opening)

-- an instrument or a contract: a draft has no more than what is said of it
abbrev pub NothingElse : Draft Load → Draft Load → Type 0
NothingElse d e = ⊤

-- a draft alone
abbrev pub draft_view : Draft Load → View
draft_view d = with_tariff no_view (vec_items d.contracts.instruments.rows) (table_in d, said_of d)

abbrev pub terms_in : Result Terms Refusal → Result Listed Refusal
terms_in (Ok t) = Ok (said_in t)
terms_in (Err e) = Err e

abbrev pub days_in : Result (Day × Day × Settlement) Refusal → Result (ℕ × ℕ × Bool) Refusal
days_in (Ok p) = Ok (p.0.number, p.1.number, is_final p.2)
days_in (Err e) = Err e
