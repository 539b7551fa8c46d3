-- The answer to the fields of a line, and how it is written.
use Rattle.std.specs.Prelude.{ℕ, ◌+◌, ◌-◌, List, [], ◌∷◌, ◌++◌, Ok, Err, decimal, Result}
use Rattle.terms.specs.declared.refusal.Refusal.{Refusal}
use Rattle.days.specs.Days.{numbered, day_of}
use Rattle.calendar.specs.Hours.{hours_between}
use Rattle.calendar.specs.Loads.{load_of, load_mask}
use Rattle.calendar.specs.Periods.{maturity_of, period_of}
use Rattle.text.specs.Chain.{◌then◌}
use Rattle.text.specs.Cursor.{letter_first, number_first, no_more}
use Rattle.text.specs.Fields.{Piece}
use Rattle.hours.specs.declared.answer.Answer.{Answer}

-- first and last day, counted from 1 January 2000, and the hours between
pub record Delivery : Type 0 where
  pub first : ℕ
  pub last : ℕ
  pub hours : ℕ

-- form, then the day's number, then the date rule: of the refusals that hold, the one with the lowest number
abbrev pub answer_of : List Piece → Result Delivery Refusal
answer_of fields =
    letter_first fields then λ profile.
    letter_first profile.1 then λ maturity.
    number_first maturity.1 then λ number.
    no_more number.1 then λ _.
    load_of profile.0 then λ load.
    maturity_of maturity.0 then λ maturity.
    day_of number.0 then λ day.
    period_of maturity day then λ period.
    Ok (record { first = period.0; last = period.1; hours = hours_between (load_mask load) period.0 period.1 })

-- what the code's answer stands for
abbrev pub delivery : Answer → Delivery
delivery a = record { first = a.period.first.number; last = a.period.last.number; hours = a.hours }

abbrev pub answer_in : Result Answer Refusal → Result Delivery Refusal
answer_in (Ok a) = Ok (delivery a)
answer_in (Err e) = Err e

-- first and last day as YYYYMMDD, the count of days, and the hours, with a space (32) between
abbrev pub written : Delivery → List ℕ
written d =
    decimal (numbered d.first)
    ++ ((32 ∷ []) ++ (decimal (numbered d.last)
    ++ ((32 ∷ []) ++ (decimal (d.last - d.first + 1)
    ++ ((32 ∷ []) ++ decimal d.hours)))))
