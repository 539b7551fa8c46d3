-- What the fields of a line say.
use Rattle.std.specs.Prelude.{cond, List, Ok, Err, Result, ◌==◌}
use Rattle.terms.specs.declared.refusal.Refusal.{Refusal}
use Rattle.terms.specs.declared.refusal.Refusal.TheVariants.{Form}
use Rattle.calendar.specs.Loads.{load_of}
use Rattle.calendar.specs.Periods.{maturity_of}
use Rattle.contracts.specs.Kinds.{kind_of}
use Rattle.books.specs.declared.entry.Account.{Account}
use Rattle.books.specs.declared.entry.Call.{Call}
use Rattle.books.specs.declared.entry.Call.TheVariants.{Enter, Cancel, Transfer}
use Rattle.opening.specs.declared.rows.Limit.{Limit}
use Rattle.opening.specs.declared.rows.Opened.{Opened}
use Rattle.tariff.specs.Rows.{ranged}
use Rattle.tariff.specs.Said.{Ranged}
use Rattle.tariff.specs.Settlements.{settlement_of}
use Rattle.tariff.specs.declared.rows.Credit.{Credit}
use Rattle.tariff.specs.declared.rows.GroupRange.{GroupRange}
use Rattle.tariff.specs.declared.rows.LineName.{LineName}
use Rattle.tariff.specs.declared.rows.LineName.TheVariants.{Day, Rest, Own}
use Rattle.tariff.specs.declared.rows.Prices.{Prices}
use Rattle.text.specs.Chain.{◌then◌}
use Rattle.text.specs.Cursor.{letter_first, number_first, no_more}
use Rattle.text.specs.Fields.{Piece}
use Rattle.forms.specs.Narrow.{in8, in16, range_in16, in32, in_signed32}
use Rattle.forms.specs.Tails.{gains_form, steps_form}
use Rattle.forms.specs.Takes.{narrow_first}
use Rattle.forms.specs.declared.row.ContractRow.{ContractRow}
use Rattle.forms.specs.declared.row.Head.{Head}
use Rattle.forms.specs.declared.row.InstrumentRow.{InstrumentRow}
use Rattle.forms.specs.declared.row.RiskRow.{RiskRow}

abbrev pub head_form : List Piece → Result Head Refusal
head_form fields =
    number_first fields then λ date.
    number_first date.1 then λ horizon.
    letter_first horizon.1 then λ letter.
    no_more letter.1 then λ _.
    settlement_of letter.0 then λ settlement.
    Ok (record { date = date.0; horizon = horizon.0; settlement = settlement })

abbrev pub instrument_form : List Piece → Result InstrumentRow Refusal
instrument_form fields =
    narrow_first in8 fields then λ number.
    letter_first number.1 then λ kind.
    letter_first kind.1 then λ profile.
    narrow_first in_signed32 profile.1 then λ spot.
    no_more spot.1 then λ _.
    kind_of kind.0 then λ kind.
    load_of profile.0 then λ profile.
    Ok (record { instrument = record { number = number.0; kind = kind; profile = profile }; spot = spot.0 })

-- the prices of today and of the day before, and the other fields
abbrev pub prices_first : List Piece → Result (Prices × List Piece) Refusal
prices_first fields =
    narrow_first in_signed32 fields then λ today.
    narrow_first in_signed32 today.1 then λ before.
    Ok (record { today = today.0; before = before.0 }, before.1)

abbrev pub contract_form : List Piece → Result ContractRow Refusal
contract_form fields =
    narrow_first in16 fields then λ number.
    narrow_first in8 number.1 then λ instrument.
    letter_first instrument.1 then λ maturity.
    number_first maturity.1 then λ first.
    number_first first.1 then λ registration.
    prices_first registration.1 then λ prices.
    no_more prices.1 then λ _.
    maturity_of maturity.0 then λ maturity.
    Ok (record { number = number.0; instrument = instrument.0; maturity = maturity; first = first.0; registration = registration.0; prices = prices.0 })

abbrev pub account_form : List Piece → Result Account Refusal
account_form fields =
    narrow_first in16 fields then λ number.
    narrow_first in8 number.1 then λ agent.
    no_more agent.1 then λ _.
    Ok (record { number = number.0; agent = agent.0 })

abbrev pub opening_form : List Piece → Result Opened Refusal
opening_form fields =
    narrow_first in16 fields then λ account.
    narrow_first in16 account.1 then λ contract.
    number_first contract.1 then λ quantity.
    number_first quantity.1 then λ value.
    no_more value.1 then λ _.
    Ok (record { account = account.0; contract = contract.0; amount = record { quantity = quantity.0; value = value.0 } })

abbrev pub limit_form : List Piece → Result Limit Refusal
limit_form fields =
    narrow_first in16 fields then λ contract.
    narrow_first in32 contract.1 then λ member.
    narrow_first in32 member.1 then λ agents.
    no_more agents.1 then λ _.
    Ok (record { contract = contract.0; member = member.0; agents = agents.0 })

abbrev pub credit_form : List Piece → Result Credit Refusal
credit_form fields =
    narrow_first in8 fields then λ first.
    narrow_first in8 first.1 then λ second.
    narrow_first in8 second.1 then λ percent.
    no_more percent.1 then λ _.
    Ok (record { first = first.0; second = second.0; percent = percent.0 })

-- ---- risks
-- `D instrument offset`, `M instrument month` or `C contract`, each after its letter, and the other fields
abbrev pub day_first : List Piece → Result (LineName × List Piece) Refusal
day_first fields =
    narrow_first in8 fields then λ instrument.
    narrow_first in8 instrument.1 then λ offset.
    Ok (Day instrument.0 offset.0, offset.1)

abbrev pub rest_first : List Piece → Result (LineName × List Piece) Refusal
rest_first fields =
    narrow_first in8 fields then λ instrument.
    narrow_first in8 instrument.1 then λ month.
    Ok (Rest instrument.0 month.0, month.1)

abbrev pub own_first : List Piece → Result (LineName × List Piece) Refusal
own_first fields =
    narrow_first in16 fields then λ contract.
    Ok (Own contract.0, contract.1)

-- the name of a line, by its letter, and the other fields
abbrev pub name_first : List Piece → Result (LineName × List Piece) Refusal
name_first fields =
    letter_first fields then λ letter.
    cond (letter.0 == 68) (day_first letter.1)
    (cond (letter.0 == 77) (rest_first letter.1)
    (cond (letter.0 == 67) (own_first letter.1) (Err Form)))

abbrev pub risk_form : List Piece → Result RiskRow Refusal
risk_form fields =
    name_first fields then λ name.
    narrow_first in8 name.1 then λ group.
    narrow_first in_signed32 group.1 then λ delta.
    narrow_first in_signed32 delta.1 then λ price.
    gains_form price.1 then λ gains.
    Ok (record { name = name.0; risk = record { group = group.0; delta = delta.0; price = price.0; gains = gains } })

-- ---- price ranges
abbrev pub range_form : List Piece → Result Ranged Refusal
range_form fields =
    narrow_first in8 fields then λ group.
    narrow_first range_in16 group.1 then λ range.
    steps_form range.1 then λ steps.
    Ok (record { group = group.0; range = range.0; steps = steps })

-- what the code's row stands for
abbrev pub range_seen : Result GroupRange Refusal → Result Ranged Refusal
range_seen (Ok r) = Ok (ranged r)
range_seen (Err e) = Err e

-- ---- calls
abbrev pub enter_form : List Piece → Result Call Refusal
enter_form fields =
    narrow_first in16 fields then λ account.
    narrow_first in16 account.1 then λ contract.
    narrow_first in_signed32 contract.1 then λ quantity.
    narrow_first in_signed32 quantity.1 then λ price.
    no_more price.1 then λ _.
    Ok (Enter (record { account = account.0; contract = contract.0; quantity = quantity.0; price = price.0 }))

abbrev pub cancel_form : List Piece → Result Call Refusal
cancel_form fields =
    narrow_first in16 fields then λ entry.
    no_more entry.1 then λ _.
    Ok (Cancel entry.0)

abbrev pub transfer_form : List Piece → Result Call Refusal
transfer_form fields =
    narrow_first in16 fields then λ entry.
    narrow_first in16 entry.1 then λ account.
    no_more account.1 then λ _.
    Ok (Transfer entry.0 account.0)

-- N for a new entry, X for a cancellation, T for a transfer
abbrev pub call_form : List Piece → Result Call Refusal
call_form fields =
    letter_first fields then λ call.
    cond (call.0 == 78) (enter_form call.1)
    (cond (call.0 == 88) (cancel_form call.1)
    (cond (call.0 == 84) (transfer_form call.1) (Err Form)))
