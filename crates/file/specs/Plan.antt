-- A margin file, line by line.
use Rattle.std.specs.Prelude.{◌≡◌, ℕ, zero, suc, ◌+◌, cond, List, [], ◌∷◌, ◌++◌, replicate, Some, None, Ok, Err, codes, Option, Result, ◌==◌}
use Rattle.std.specs.Result.{result_err}
use Rattle.std.specs.Str.{bytes_eq}
use Rattle.terms.specs.declared.refusal.Refusal.{Refusal}
use Rattle.terms.specs.declared.refusal.Refusal.TheVariants.{Form}
use Rattle.text.specs.Chain.{◌then◌}
use Rattle.text.specs.Fields.{Piece}
use Rattle.text.specs.Lines.{fields_of}
use Rattle.file.specs.declared.fault.Fault.{Fault}

-- ---- the lines of a file
-- a line, or the last bytes, which no line's end follows
pub data Line : Type 0 where
  whole : List ℕ → Line
  unended : List ℕ → Line

-- bytes that no line's end follows, if there are any
abbrev pub last_bytes : List ℕ → List Line
last_bytes [] = []
last_bytes (b ∷ bs) = unended (b ∷ bs) ∷ []

-- where w is the part of a line that has been read
abbrev pub lines_from : List ℕ → List ℕ → List Line
lines_from w [] = last_bytes w
lines_from w (b ∷ bs) = cond (b == 10) (whole w ∷ lines_from [] bs) (lines_from (w ++ b ∷ []) bs)

abbrev pub lines_in : List ℕ → List Line
lines_in bs = lines_from [] bs

-- ---- what is due
-- the title, a contents line for a section, a row of a section
pub data Due (S : Type 0) : Type 0 where
  title : Due S
  contents : S → Due S
  row : S → Due S

-- `MARGIN 10`
abbrev pub title_is : List ℕ
title_is = codes "MARGIN 10"

abbrev pub at : {V : Type 0} → ℕ → Result V Refusal → Result V Fault
at n (Ok v) = Ok v
at n (Err e) = Err (record { refusal = e; line = n })

abbrev pub onward : {X Y E : Type 0} → Result X E → (X → Option Y) → Option Y
onward (Ok x) f = f x
onward (Err e) f = None

-- the line at a place, if there is one
abbrev pub nth : {X : Type 0} → List X → ℕ → Option X
nth [] k = None
nth (x ∷ xs) zero = Some x
nth (x ∷ xs) (suc k) = nth xs k

-- nothing more is promised
abbrev pub read_with : {S V : Type 0} → V → Result (List (Due S) × V) Refusal
read_with v = Ok ([], v)

-- so many rows of a section are promised
abbrev pub promises : {S V : Type 0} → S → V → ℕ → Result (List (Due S) × V) Refusal
promises s v n = Ok (replicate n (row s), v)

-- how a section's contents line and its rows read: a count, and what has been read with the row
module _ {S V : Type 0} (counts : S → List Piece → Result ℕ Refusal) (says : S → V → List Piece → Result V Refusal) where
  -- the rows that a line promises, and what has been read with it; or the lowest number that holds of it
  abbrev pub judged : Due S → V → Line → Result (List (Due S) × V) Refusal
  judged title v (whole w) = cond (bytes_eq w title_is) (read_with v) (Err Form)
  judged title v (unended w) = Err Form
  judged (contents s) v (whole w) = counts s (fields_of w) then promises s v
  judged (contents s) v (unended w) = Err Form
  judged (row s) v (whole w) = says s v (fields_of w) then read_with
  judged (row s) v (unended w) = Err Form

  -- line n and those after it, where some lines are due
  abbrev pub read_from : ℕ → List (Due S) → V → List Line → Result V Fault
  read_from n [] v [] = Ok v
  read_from n [] v (l ∷ ls) = at n (Err Form)
  read_from n (d ∷ ds) v [] = at n (Err Form)
  read_from n (d ∷ ds) v (l ∷ ls) = at n (judged d v l) then λ p. read_from (n + 1) (ds ++ p.0) p.1 ls

  -- ---- the first line at fault
  -- what is due and what has been read after k lines, where none of them is at fault
  abbrev pub after : ℕ → List (Due S) → V → List Line → Option (List (Due S) × V)
  after zero ds v ls = Some (ds, v)
  after (suc k) ds v [] = None
  after (suc k) [] v (l ∷ ls) = None
  after (suc k) (d ∷ ds) v (l ∷ ls) = onward (judged d v l) (λ p. after k (ds ++ p.0) p.1 ls)

  -- what a line is at fault for: one that is due and not there, one that is there and not due, or one that is not right
  abbrev pub fault_of : List (Due S) → V → Option Line → Option Refusal
  fault_of [] v None = None
  fault_of [] v (Some l) = Some Form
  fault_of (d ∷ ds) v None = Some Form
  fault_of (d ∷ ds) v (Some l) = result_err (judged d v l)

  -- the line that is the first at fault, counted from n, and what for
  pub record FirstFault (n : ℕ) (ds : List (Due S)) (v : V) (ls : List Line) (q : Fault) : Type 0 where
    pub before : ℕ
    pub number : q.line ≡ n + before
    pub due : List (Due S)
    pub seen : V
    pub right : after before ds v ls ≡ Some (due, seen)
    pub wrong : fault_of due seen (nth ls before) ≡ Some q.refusal
