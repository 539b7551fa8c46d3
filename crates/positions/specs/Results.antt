-- What the working out of positions gives.
use Rattle.std.specs.Prelude.{◌≡◌, ℕ, ◌^◌, ◌<◌, ◌≤◌, List, map, length, ℤ, unsigned_abs}
use Rattle.contracts.specs.Lines.{Line, day, rest, own, lines}
use Rattle.contracts.specs.Table.{Table, size}
use Rattle.positions.specs.Net.{placed}
use Rattle.positions.specs.Netted.{position, owned, netted}

-- the positions of all lines, in their order, before netting and after it
pub record PositionsAre (t : Table) (q : ℕ → ℤ) (before after : List ℤ) : Type 0 where
  pub broken_down : before ≡ map (position t q) (lines t)
  pub netted_down : after ≡ map (netted t q) (lines t)

-- the positions of the contracts' own lines
pub record OwnAre (t : Table) (q : ℕ → ℤ) (xs : List ℤ) : Type 0 where
  pub long : length xs ≡ size t
  pub each : (i : ℕ) → i < size t → placed xs i ≡ owned t q i
  pub small : (i : ℕ) → unsigned_abs (placed xs i) ≤ 2 ^ 38

-- a line's position p, or that of the contract at its place
abbrev pub netted_at : ℤ → List ℤ → Line → ℤ
netted_at p xs (day u e) = p
netted_at p xs (rest u m) = p
netted_at p xs (own i) = placed xs i

abbrev pub netted_by : Table → (ℕ → ℤ) → List ℤ → Line → ℤ
netted_by t q xs l = netted_at (position t q l) xs l
