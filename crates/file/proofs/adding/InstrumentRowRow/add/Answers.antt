use Rattle.std.proofs.Common.{◌≡◌, refl, w32, SFits, rules}
use Rattle.std.proofs.lemmas.Int.{to_z-of_z}
use Rattle.contracts.specs.Rules.{answer_by}
use Rattle.tariff.specs.Rules.{spot_refusal}
use Rattle.tariff.specs.Views.{table_in}
use Rattle.file.specs.Meaning.{draft_view}
use Rattle.file.specs.Says.{instrument_by}
use Rattle.file.specs.View.{no_view}
use Rattle.file.proofs.OfDraft.{tariff_alike}
use Rattle.file.proofs.Rows.{added, taken}
use Rattle.file.proofs.adding.InstrumentRowRow.add.Goals as goal

pub returns-clause-added : goal.returns-clause-added
returns-clause-added c =
    let s = c.args.draft.now in
    let v = draft_view s in
    let row = c.in_ok-instrument.field-0 in
    let fits : SFits w32 row.spot = search rules in
    let answer : c.add_instrument.result ≡ answer_by (spot_refusal (table_in s) row.instrument.number row.spot) = simp to_z-of_z at c.add_instrument.ensures.answer in
    let draft = simp to_z-of_z at c.add_instrument.ensures.draft in
    added _ row (instrument_by v) (spot_refusal (table_in s) row.instrument.number row.spot) _ _ _ c.in_ok-instrument.ensures refl answer
    (λ ok. tariff_alike no_view _ _ _ _ (taken _ _ _ _ c.add_instrument.ensures.profiles ok) (taken _ _ _ _ draft ok))
