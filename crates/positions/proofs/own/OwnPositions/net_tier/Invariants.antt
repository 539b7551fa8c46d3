use Rattle.std.proofs.Common.{◌≡◌, ℕ, ◌-◌, vec_items, vec_len}
use Rattle.std.specs.List.{range_with_len}
use Rattle.contracts.specs.Table.{size}
use Rattle.contracts.specs.Views.{table_of}
use Rattle.positions.specs.Net.{placed, net_all}
use Rattle.positions.specs.Netted.{relations_over, relations_of}
use Rattle.positions.specs.Tiers.{tier_of}
use Rattle.positions.proofs.own.OwnPositions.net_tier.Given as goal

abbrev pub invariant-loop-place : goal.invariant-loop-place
invariant-loop-place g l = record {
  long : vec_len l.self.positions ≡ vec_len l.initial.self.positions;
  value : (k : ℕ) → net_all (relations_over (table_of l.table) (tier_of l.tier) (range_with_len l.place (size (table_of l.table) - l.place))) (placed (vec_items l.self.positions)) k ≡ net_all (relations_of (table_of l.table) (tier_of l.tier)) (placed (vec_items l.initial.self.positions)) k;
}
