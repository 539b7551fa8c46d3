-- What the lines of each section say: what has been read with the line, or the lowest number that holds of it. Its form
-- comes first, then dates, then what the table that takes its row refuses it for.
use Rattle.std.specs.Prelude.{ℕ, Bool, cond, List, [], ◌∷◌, ◌++◌, length, Some, None, Ok, Err, Option, Result, ◌==◌, nat_le}
use Rattle.terms.specs.declared.refusal.Refusal.{Refusal}
use Rattle.terms.specs.declared.refusal.Refusal.TheVariants.{OutOfRange, TooLong, NoHours}
use Rattle.days.specs.Days.{day_of}
use Rattle.calendar.specs.Loads.{load_mask}
use Rattle.contracts.specs.Hours.{mask_in, contract_hours}
use Rattle.contracts.specs.Rows.{instr}
use Rattle.contracts.specs.Rules.{dates_answer}
use Rattle.contracts.specs.Table.{Listed}
use Rattle.contracts.specs.Views.{plus_instrument, plus_contract}
use Rattle.text.specs.Chain.{◌then◌}
use Rattle.text.specs.Fields.{Piece}
use Rattle.books.specs.Answers.{out_of_range}
use Rattle.books.specs.declared.entry.Account.{Account}
use Rattle.books.specs.declared.entry.Call.{Call}
use Rattle.opening.specs.Rules.{account_refusal, opening_refusal, limit_refusal}
use Rattle.opening.specs.Views.{listings_of}
use Rattle.opening.specs.declared.rows.Limit.{Limit}
use Rattle.opening.specs.declared.rows.Opened.{Opened}
use Rattle.tariff.specs.Rules.{spot_refusal, prices_refusal, risk_refusal, range_refusal, credit_refusal, named}
use Rattle.tariff.specs.Said.{Ranged}
use Rattle.tariff.specs.Settlements.{is_final}
use Rattle.tariff.specs.Views.{no_rows, plus_spot, plus_prices, plus_risk, plus_range, plus_credit}
use Rattle.tariff.specs.declared.rows.Credit.{Credit}
use Rattle.tariff.specs.declared.rows.Prices.{Prices}
use Rattle.forms.specs.Forms.{head_form, instrument_form, contract_form, account_form, opening_form, limit_form, risk_form, range_form, credit_form, call_form}
use Rattle.forms.specs.declared.row.ContractRow.{ContractRow}
use Rattle.forms.specs.declared.row.InstrumentRow.{InstrumentRow}
use Rattle.forms.specs.declared.row.RiskRow.{RiskRow}
use Rattle.forms.specs.declared.section.Section.{Section}
use Rattle.forms.specs.declared.section.Section.TheVariants.{Head, Instruments, Contracts, Accounts, Openings, Limits, Risks, Ranges, Credits, Calls}
use Rattle.file.specs.View.{View, with_tariff, with_opening, with_calls}

-- what is refused, or else what has been read
abbrev pub by : {X : Type 0} → Option Refusal → X → Result X Refusal
by None x = Ok x
by (Some e) x = Err e

-- ---- H: two days that exist, and a horizon 1 to 14 days after the date
abbrev pub head_days : List Piece → Result (ℕ × ℕ × Bool) Refusal
head_days ps =
    head_form ps then λ f.
    day_of f.date then λ date.
    day_of f.horizon then λ horizon.
    Ok (date, horizon, is_final f.settlement)

abbrev pub head_says : View → List Piece → Result View Refusal
head_says v ps =
    head_days ps then λ d.
    dates_answer d.0 d.1 then λ t.
    Ok (with_tariff v [] (t, no_rows d.2))

-- ---- I
abbrev pub plus_instrument_row : View → InstrumentRow → View
plus_instrument_row v f = with_tariff v (v.instruments ++ f.instrument ∷ []) (plus_instrument v.table (instr f.instrument), plus_spot v.tariff f.spot)

abbrev pub instrument_by : View → InstrumentRow → Result View Refusal
instrument_by v f = by (spot_refusal v.table f.instrument.number f.spot) (plus_instrument_row v f)

abbrev pub instrument_says : View → List Piece → Result View Refusal
instrument_says v ps = instrument_form ps then instrument_by v

-- ---- C: two days that exist; and last of all, that the contract has hours
abbrev pub terms_of : ContractRow → Result Listed Refusal
terms_of f =
    day_of f.first then λ first.
    day_of f.registration then λ registration.
    Ok (record { number = f.number; instrument = f.instrument; maturity = f.maturity; first = first; registration = registration })

abbrev pub lacks_hours : View → Listed → Bool
lacks_hours v c = contract_hours (mask_in load_mask v.instruments) c == 0

abbrev pub plus_contract_row : View → Listed → Prices → View
plus_contract_row v c p = with_tariff v v.instruments (plus_contract v.table c, plus_prices v.tariff p)

abbrev pub contract_by : View → Prices → Listed → Result View Refusal
contract_by v p c =
    by (prices_refusal v.table c p) (plus_contract_row v c p) then λ u.
    cond (lacks_hours v c) (Err NoHours) (Ok u)

abbrev pub contract_says : View → List Piece → Result View Refusal
contract_says v ps =
    contract_form ps then λ f.
    terms_of f then contract_by v f.prices

-- ---- A, O, L
abbrev pub account_by : View → Account → Result View Refusal
account_by v x = by (account_refusal v.accounts x) (with_opening v (v.accounts ++ x ∷ []) v.rows v.limits)

abbrev pub account_says : View → List Piece → Result View Refusal
account_says v ps = account_form ps then account_by v

abbrev pub opening_by : View → Opened → Result View Refusal
opening_by v r = by (opening_refusal v.accounts (listings_of v.table) v.rows r) (with_opening v v.accounts (v.rows ++ r ∷ []) v.limits)

abbrev pub opening_says : View → List Piece → Result View Refusal
opening_says v ps = opening_form ps then opening_by v

abbrev pub limit_by : View → Limit → Result View Refusal
limit_by v y = by (limit_refusal (listings_of v.table) v.limits y) (with_opening v v.accounts v.rows (v.limits ++ y ∷ []))

abbrev pub limit_says : View → List Piece → Result View Refusal
limit_says v ps = limit_form ps then limit_by v

-- ---- R, K, X
abbrev pub risk_by : View → RiskRow → Result View Refusal
risk_by v f = by (risk_refusal v.table v.tariff.risks f.name f.risk) (with_tariff v v.instruments (v.table, plus_risk v.tariff (record { line = named v.table f.name; risk = f.risk })))

abbrev pub risk_says : View → List Piece → Result View Refusal
risk_says v ps = risk_form ps then risk_by v

abbrev pub range_by : View → Ranged → Result View Refusal
range_by v r = by (range_refusal v.tariff.ranges r) (with_tariff v v.instruments (v.table, plus_range v.tariff r))

abbrev pub range_says : View → List Piece → Result View Refusal
range_says v ps = range_form ps then range_by v

abbrev pub credit_by : View → Credit → Result View Refusal
credit_by v c = by (credit_refusal v.tariff.credits c) (with_tariff v v.instruments (v.table, plus_credit v.tariff c))

abbrev pub credit_says : View → List Piece → Result View Refusal
credit_says v ps = credit_form ps then credit_by v

-- ---- E: a number out of range, or 4,096 are there
abbrev pub call_refusal : List Call → Call → Option Refusal
call_refusal cs c = cond (out_of_range c) (Some OutOfRange) (cond (nat_le 4096 (length cs)) (Some TooLong) None)

abbrev pub call_by : View → Call → Result View Refusal
call_by v c = by (call_refusal v.calls c) (with_calls v (v.calls ++ c ∷ []))

abbrev pub call_says : View → List Piece → Result View Refusal
call_says v ps = call_form ps then call_by v

-- ---- by section
unfoldable pub line_says : Section → View → List Piece → Result View Refusal
line_says Head = head_says
line_says Instruments = instrument_says
line_says Contracts = contract_says
line_says Accounts = account_says
line_says Openings = opening_says
line_says Limits = limit_says
line_says Risks = risk_says
line_says Ranges = range_says
line_says Credits = credit_says
line_says Calls = call_says
