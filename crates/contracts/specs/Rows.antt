-- What the code's rows stand for. Names no struct that has the rules as its ghost fields.
use Rattle.std.specs.Prelude.{Some, None, Ok, Err, Option, Result}
use Rattle.terms.specs.declared.refusal.Refusal.{Refusal}
use Rattle.contracts.specs.Table.{Instr, Listed, blank}
use Rattle.contracts.specs.declared.contract.Instrument.{Instrument}
use Rattle.contracts.specs.declared.contract.Terms.{Terms}
use Rattle.contracts.specs.declared.contract.Contract.{Contract}

abbrev pub instr : {P : Type 0} → Instrument P → Instr
instr i = record { number = i.number; kind = i.kind }

abbrev pub said_in : Terms → Listed
said_in c = record { number = c.number; instrument = c.instrument; maturity = c.maturity; first = c.first.number; registration = c.registration.number }

abbrev pub listed : Contract → Listed
listed c = said_in c.terms

abbrev pub told : Result Contract Refusal → Result (Unit {0}) Refusal
told (Ok c) = Ok tt
told (Err e) = Err e

abbrev pub row_in : Option Contract → Listed
row_in None = blank
row_in (Some c) = listed c
