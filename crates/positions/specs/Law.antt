-- What breakdown and netting keep.
use Rattle.std.specs.Prelude.{◌≡◌, ℕ, ◌<◌, cond, ◌&&◌, List, [], ◌∷◌, ℤ, pos, ◌+ℤ◌, ◌==◌}
use Rattle.calendar.specs.Hours.{delivered_in}
use Rattle.contracts.specs.Lines.{Line, instr_of, is_own_line, lines, delivers}
use Rattle.contracts.specs.Table.{Table, nth, size, covers}
use Rattle.positions.specs.Net.{Places, NoArbitrage, Nearer, placed}
use Rattle.positions.specs.Netted.{relations}
use Rattle.positions.specs.Sums.{sum_to}

-- what the contracts of instrument u hold in hour h of day d, of the quantities q by place
abbrev pub held_in_hour : (ℕ → ℕ → ℕ) → Table → (ℕ → ℤ) → ℕ → ℕ → ℕ → ℤ
held_in_hour masks t q u d h = sum_to (λ i. cond (delivered_in (masks u) d h && ((nth t i).instrument == u && covers (nth t i) d)) (q i) (pos 0)) (size t)

-- the sum of f over lines, each with its position
abbrev pub sum_with : (Line → ℤ → ℤ) → List Line → List ℤ → ℤ
sum_with f [] xs = pos 0
sum_with f (l ∷ ls) [] = pos 0
sum_with f (l ∷ ls) (x ∷ xs) = f l x +ℤ sum_with f ls xs

-- what the lines of instrument u deliver in that hour, with the positions xs
abbrev pub delivered_in_hour : (ℕ → ℕ → ℕ) → Table → List ℤ → ℕ → ℕ → ℕ → ℤ
delivered_in_hour masks t xs u d h = sum_with (λ l x. cond (delivered_in (masks u) d h && (instr_of t l == u && delivers t l d)) x (pos 0)) (lines t) xs

-- the position of the own line of the contract at place i
abbrev pub own_in : Table → List ℤ → Places
own_in t xs i = sum_with (λ l x. cond (is_own_line i l) x (pos 0)) (lines t) xs

-- In every instrument and hour of a day after the date the position is kept; netting moves each line's position towards
-- zero and keeps its side; and no listed arbitrage remains.
pub record HoursKept (masks : ℕ → ℕ → ℕ) (t : Table) (q : ℕ → ℤ) (before after : List ℤ) : Type 0 where
  pub conserved : (u d h : ℕ) → t.date < d → delivered_in_hour masks t after u d h ≡ held_in_hour masks t q u d h
  pub nearer : (k : ℕ) → Nearer (placed before k) (placed after k)
  pub none_left : NoArbitrage (relations t) (own_in t after)
