-- One line more, in the order of the lines.
use Rattle.std.proofs.Common.{◌≡◌, ℕ, suc, ◌+◌, ◌-◌, ◌<◌, List, [], ◌∷◌, ◌++◌, map, ap, append_assoc, arith}
use Rattle.std.specs.List.{range_with_len}
use Rattle.std.proofs.lemmas.List.{map_push}
use Rattle.contracts.specs.Lines as spec
use Rattle.contracts.specs.Lines.{owns, timely, all_timely, has_line}
use Rattle.contracts.specs.Rows.{instr}
use Rattle.contracts.specs.Seen.{seen}
use Rattle.contracts.specs.Table.{Instr}
use Rattle.contracts.specs.declared.contract.Instrument.{Instrument}
use Rattle.contracts.specs.declared.line.Line.{Line}

-- a list with one line more, before what is still to come
pub one_more : (d : ℕ) (ls ms : List Line) (l : Line) (rest whole : List spec.Line) → ms ≡ ls ++ l ∷ [] → map (seen d) ls ++ (seen d l ∷ rest) ≡ whole → map (seen d) ms ++ rest ≡ whole
one_more d ls ms l rest whole e h = rw (e, map_push (seen d) ls l, append_assoc (map (seen d) ls) (seen d l ∷ []) rest) h

pub days_more : (u n e : ℕ) → n < e → map (spec.day u) (range_with_len n (e - n)) ≡ spec.day u n ∷ map (spec.day u) (range_with_len (n + 1) (e - (n + 1)))
days_more u n e h = let s : e - n ≡ suc (e - (n + 1)) = omega arith in ap (λ k. map (spec.day u) (range_with_len n k)) s

-- the instruments from place i on
abbrev pub numbers_of : {P : Type 0} → List (Instrument P) → List ℕ
numbers_of is = map (λ (j : Instr). j.number) (map instr is)
