-- What a margin file says.
use Rattle.std.specs.Prelude.{◌≡◌, ℕ, ◌<◌, ◌≤◌, true, false, cond, List, [], ◌∷◌, map, length, Some, Ok, Err, Result, nat_lt}
use Rattle.terms.specs.declared.refusal.Refusal.TheVariants.{MissingRiskLine, TooLong}
use Rattle.text.specs.Chain.{◌then◌}
use Rattle.tariff.specs.Rules.{is_complete}
use Rattle.forms.specs.declared.section.Section.{Section}
use Rattle.forms.specs.declared.section.Section.TheVariants.{Head, Instruments, Contracts, Accounts, Openings, Limits, Risks, Ranges, Credits, Calls}
use Rattle.file.specs.Contents.{count_of}
use Rattle.file.specs.Plan.{Due, title, contents, lines_in, at, read_from, after, FirstFault}
use Rattle.file.specs.Says.{line_says}
use Rattle.file.specs.View.{View, no_view}
use Rattle.file.specs.declared.fault.Fault.{Fault}

abbrev pub sections : List Section
sections = Head ∷ Instruments ∷ Contracts ∷ Accounts ∷ Openings ∷ Limits ∷ Risks ∷ Ranges ∷ Credits ∷ Calls ∷ []

-- the title, and a contents line for each section; these promise the rows
abbrev pub plan : List (Due Section)
plan = title ∷ map contents sections

-- how many bytes a file may have
abbrev pub most_bytes : ℕ
most_bytes = 65536

-- last of all, that no line of the contract table lacks its risk line: told at the contents line of the risk lines
abbrev pub whole : View → Result View Fault
whole v = cond (is_complete v.table v.tariff.risks) (Ok v) (at 8 (Err MissingRiskLine))

abbrev pub file_says : List ℕ → Result View Fault
file_says bs = cond (nat_lt most_bytes (length bs)) (at 0 (Err TooLong)) (read_from count_of line_says 1 plan no_view (lines_in bs) then whole)

-- ---- the law
-- no line is at fault, and this is what they say
abbrev pub Right : List ℕ → View → Type 0
Right bs v = after count_of line_says (length (lines_in bs)) plan no_view (lines_in bs) ≡ Some ([], v)

-- a file is refused by a number at a line exactly when it is too long; or else when that line is the first at fault and
-- that number the lowest that holds of it; or else, where no line is at fault, when a risk line is lacking
pub data RefusedFor (bs : List ℕ) (q : Fault) : Type 0 where
  too_long : most_bytes < length bs → q ≡ record { refusal = TooLong; line = 0 } → RefusedFor bs q
  at_fault : length bs ≤ most_bytes → FirstFault count_of line_says 1 plan no_view (lines_in bs) q → RefusedFor bs q
  lacking : length bs ≤ most_bytes → (v : View) → Right bs v → is_complete v.table v.tariff.risks ≡ false → q ≡ record { refusal = MissingRiskLine; line = 8 } → RefusedFor bs q

pub record Lawful (bs : List ℕ) (r : Result View Fault) : Type 0 where
  pub refused : (q : Fault) → RefusedFor bs q → r ≡ Err q
  pub only : (q : Fault) → r ≡ Err q → RefusedFor bs q
  pub read : (v : View) → length bs ≤ most_bytes → Right bs v → is_complete v.table v.tariff.risks ≡ true → r ≡ Ok v
  pub whole_read : (v : View) → r ≡ Ok v → (length bs ≤ most_bytes) × Right bs v × (is_complete v.table v.tariff.risks ≡ true)
