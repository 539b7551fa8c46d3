-- The title and the contents lines.
use Rattle.std.specs.Prelude.{ℕ, Bool, true, false, cond, List, ℤ, pos, Ok, Err, Result, ◌==◌, int_lt, unsigned_abs}
use Rattle.terms.specs.declared.refusal.Refusal.{Refusal}
use Rattle.terms.specs.declared.refusal.Refusal.TheVariants.{Form, OutOfRange, TooLong}
use Rattle.text.specs.Chain.{◌then◌}
use Rattle.text.specs.Cursor.{letter_first, number_first, no_more}
use Rattle.text.specs.Fields.{Piece}
use Rattle.file.specs.Walk.{line_at}
use Rattle.file.specs.declared.counts.Counts.{Counts}
use Rattle.file.specs.declared.fault.Fault.{Fault}
use Rattle.forms.specs.Sections.{letter_of, most_of}
use Rattle.forms.specs.declared.section.Section.{Section}
use Rattle.forms.specs.declared.section.Section.TheVariants.{Head, Instruments, Contracts, Accounts, Openings, Limits, Risks, Ranges, Credits, Calls}

-- is it the section of the date, which has one line?
abbrev pub is_head : Section → Bool
is_head Head = true
is_head Instruments = false
is_head Contracts = false
is_head Accounts = false
is_head Openings = false
is_head Limits = false
is_head Risks = false
is_head Ranges = false
is_head Credits = false
is_head Calls = false

-- a count: 1 where the head's is not 1, 2 where it is negative, 7 where it is more than the section holds
abbrev pub count_for : Section → ℤ → Result ℕ Refusal
count_for s z =
    cond (is_head s) (cond (int_lt z (pos 1)) (Err Form) (cond (int_lt (pos 1) z) (Err Form) (Ok 1)))
    (cond (int_lt z (pos 0)) (Err OutOfRange)
    (cond (int_lt (pos (most_of s)) z) (Err TooLong) (Ok (unsigned_abs z))))

-- the section's letter and a count
abbrev pub count_of : Section → List Piece → Result ℕ Refusal
count_of s ps =
    letter_first ps then λ letter.
    number_first letter.1 then λ count.
    no_more count.1 then λ _.
    cond (letter.0 == letter_of s) (count_for s count.0) (Err Form)

-- the ten contents lines, from line 2 on, and what follows them
abbrev pub counts_of : List ℕ → Result (Counts × List ℕ) Fault
counts_of bs =
    line_at (count_of Head) 2 bs then λ h.
    line_at (count_of Instruments) 3 h.1 then λ i.
    line_at (count_of Contracts) 4 i.1 then λ c.
    line_at (count_of Accounts) 5 c.1 then λ a.
    line_at (count_of Openings) 6 a.1 then λ o.
    line_at (count_of Limits) 7 o.1 then λ l.
    line_at (count_of Risks) 8 l.1 then λ r.
    line_at (count_of Ranges) 9 r.1 then λ k.
    line_at (count_of Credits) 10 k.1 then λ x.
    line_at (count_of Calls) 11 x.1 then λ e.
    Ok (record { instruments = i.0; contracts = c.0; accounts = a.0; openings = o.0; limits = l.0; risks = r.0; ranges = k.0; credits = x.0; calls = e.0 }, e.1)
