-- What is printed of calls, their answers and cells.
use Rattle.std.specs.Prelude.{ℕ, List, [], ◌∷◌, ◌++◌, Ok, Err, codes, decimal, Result}
use Rattle.std.specs.List.{zip, flat_map}
use Rattle.std.specs.Fmt.{signed_decimal}
use Rattle.terms.specs.Refusals.{number_of}
use Rattle.terms.specs.declared.refusal.Refusal.{Refusal}
use Rattle.books.specs.declared.entry.Call.{Call}
use Rattle.books.specs.declared.entry.Call.TheVariants.{Enter, Cancel, Transfer, LimitMember, LimitAgents}
use Rattle.desk.specs.declared.row.Row.{Row}

-- the call's name, and its numbers in their order
abbrev pub call_text : Call → List ℕ
call_text (Enter t) = codes "enter " ++ (decimal t.account ++ (codes " " ++ (decimal t.contract ++ (codes " " ++ (signed_decimal t.quantity ++ (codes " " ++ signed_decimal t.price))))))
call_text (Cancel k) = codes "cancel " ++ decimal k
call_text (Transfer k a) = codes "transfer " ++ (decimal k ++ (codes " " ++ decimal a))
call_text (LimitMember c most) = codes "limit member " ++ (decimal c ++ (codes " " ++ decimal most))
call_text (LimitAgents c most) = codes "limit agents " ++ (decimal c ++ (codes " " ++ decimal most))

-- the entry's number, or the refusal's
abbrev pub answer_text : Result ℕ Refusal → List ℕ
answer_text (Ok n) = decimal n
answer_text (Err e) = codes "refused " ++ decimal (number_of e)

abbrev pub asked_text : Call → Result ℕ Refusal → List ℕ
asked_text call r = call_text call ++ (codes " -> " ++ answer_text r)

-- account, contract, quantity and value at the opening, quantity and value traded
abbrev pub row_text : Row → List ℕ
row_text x =
    codes "cell " ++ (decimal x.account
    ++ (codes " " ++ (decimal x.contract
    ++ (codes " " ++ (signed_decimal x.cell.opening.quantity
    ++ (codes " " ++ (signed_decimal x.cell.opening.value
    ++ (codes " " ++ (signed_decimal x.cell.traded.quantity
    ++ (codes " " ++ signed_decimal x.cell.traded.value))))))))))

-- a line of text, with its end (10)
abbrev pub line : List ℕ → List ℕ
line bs = bs ++ 10 ∷ []

abbrev pub asked_lines : List (Call × Result ℕ Refusal) → List ℕ
asked_lines = flat_map (λ (p : Call × Result ℕ Refusal). line (asked_text p.0 p.1))

abbrev pub row_lines : List Row → List ℕ
row_lines = flat_map (λ (x : Row). line (row_text x))

-- a line for each call that has an answer, then one for each cell
abbrev pub report_text : List Call → List (Result ℕ Refusal) → List Row → List ℕ
report_text calls rs xs = asked_lines (zip calls rs) ++ row_lines xs
