use Rattle.std.proofs.Common.{◌≡◌, ℕ, take, vec_items, vec_len}
use Rattle.positions.specs.Net.{placed}
use Rattle.positions.specs.Steps.{taken}
use Rattle.positions.proofs.own.OwnPositions.take_off.Given as goal

abbrev pub invariant-loop-o : goal.invariant-loop-o
invariant-loop-o l = record {
  value : (j : ℕ) → placed (vec_items l.self.positions) j ≡ taken l.size (take l.o-index l.others) (placed (vec_items l.initial.self.positions)) j;
  long : vec_len l.self.positions ≡ vec_len l.initial.self.positions;
}
