-- The number of each refusal.
use Rattle.std.specs.Prelude.{ℕ}
use Rattle.terms.specs.declared.refusal.Refusal.{Refusal}
use Rattle.terms.specs.declared.refusal.Refusal.TheVariants.{Form, OutOfRange, UnknownReference, RepeatedKey, DateRule, MissingRiskLine, TooLong, NoHours, NotInBook, RegistrationOver, JournalFull, NoStandingEntry, OwnAccount, ProvisionalPrices, CellOutOfRange, OverLimit}

abbrev pub number_of : Refusal → ℕ
-- of a file or of one of its lines
number_of Form = 1
number_of OutOfRange = 2
number_of UnknownReference = 3
number_of RepeatedKey = 4
number_of DateRule = 5
number_of MissingRiskLine = 6
number_of TooLong = 7
number_of NoHours = 8
-- of a call, by the state of the book or the session
number_of NotInBook = 9
number_of RegistrationOver = 10
number_of JournalFull = 11
number_of NoStandingEntry = 12
number_of OwnAccount = 13
number_of ProvisionalPrices = 14
number_of CellOutOfRange = 15
number_of OverLimit = 16
