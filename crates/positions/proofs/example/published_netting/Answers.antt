use Rattle.std.proofs.Common.{refl}
use Rattle.days.specs.Months.{month_of, lengths, month_from}
use Rattle.contracts.specs.Lines.{any_below}
use Rattle.positions.specs.Netted.{relations, seek}
use Rattle.positions.proofs.example.published_netting.Goals as goal

pub returns : goal.returns
unfolding month_of lengths month_from any_below relations seek
returns c = record { value = refl; stands = refl }
