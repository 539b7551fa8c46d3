-- What is printed of a table's lines.
use Rattle.std.specs.Prelude.{ℕ, ◌+◌, List, [], ◌∷◌, ◌++◌, ℤ, decimal}
use Rattle.std.specs.Fmt.{signed_decimal}
use Rattle.days.specs.Days.{numbered}
use Rattle.days.specs.Months.{month_start}
use Rattle.calendar.specs.Periods.{maturity_letter}
use Rattle.contracts.specs.Hours.{line_hours}
use Rattle.contracts.specs.Lines.{Line, day, rest, own, instr_of, lines}
use Rattle.contracts.specs.Table.{Table, nth}
use Rattle.positions.specs.Net.{Places, placed}
use Rattle.lines.specs.declared.row.Label.{Label}
use Rattle.lines.specs.declared.row.Label.TheVariants.{Day, Rest, Contract}
use Rattle.lines.specs.declared.row.Row.{Row}

-- `day`, `rest`, or a maturity's letter
abbrev pub called : Label → List ℕ
called Day = 100 ∷ 97 ∷ 121 ∷ []
called Rest = 114 ∷ 101 ∷ 115 ∷ 116 ∷ []
called (Contract x) = maturity_letter x ∷ []

-- label, instrument, first day as YYYYMMDD, hours, position before netting and after it, with a space (32) between
abbrev pub row_text : Label → ℕ → ℕ → ℕ → ℤ → ℤ → List ℕ
row_text label instrument first hours before after =
    called label
    ++ ((32 ∷ []) ++ (decimal instrument
    ++ ((32 ∷ []) ++ (decimal first
    ++ ((32 ∷ []) ++ (decimal hours
    ++ ((32 ∷ []) ++ (signed_decimal before
    ++ ((32 ∷ []) ++ signed_decimal after)))))))))

-- what the code's row says
abbrev pub written : Row → List ℕ
written r = row_text r.label r.instrument r.first r.hours r.before r.netted

abbrev pub label_of : Table → Line → Label
label_of t (day u e) = Day
label_of t (rest u m) = Rest
label_of t (own i) = Contract (nth t i).maturity

-- the first day of a line; of a rest, the first of its month
abbrev pub first_of : Table → Line → ℕ
first_of t (day u e) = e
first_of t (rest u m) = month_start m
first_of t (own i) = (nth t i).first

abbrev pub row_of : (ℕ → ℕ → ℕ) → Table → Line → ℤ → ℤ → List ℕ
row_of masks t l before after = row_text (label_of t l) (instr_of t l) (numbered (first_of t l)) (line_hours masks t l) before after

-- a row for each line, with the positions at its place, and the line's end (10)
abbrev pub rows_from : (ℕ → ℕ → ℕ) → Table → Places → Places → ℕ → List Line → List ℕ
rows_from masks t before after i [] = []
rows_from masks t before after i (l ∷ ls) = (row_of masks t l (before i) (after i) ++ 10 ∷ []) ++ rows_from masks t before after (i + 1) ls

abbrev pub report_of : (ℕ → ℕ → ℕ) → Table → List ℤ → List ℤ → List ℕ
report_of masks t before after = rows_from masks t (placed before) (placed after) 0 (lines t)
