use Rattle.std.proofs.Common.{◌≡◌, true, false, pos, vec_items, rules}
use Rattle.std.proofs.lemmas.List.{length-map}
use Rattle.terms.specs.Ranges.{holds_in}
use Rattle.terms.specs.declared.bounds.Bounds.TheVariants.{Instrument}
use Rattle.contracts.specs.Rows.{instr}
use Rattle.contracts.specs.Rules.{answer_by, instrument_refusal, is_numbered}
use Rattle.contracts.specs.Views.{table_of}
use Rattle.contracts.proofs.Keeping.{instrument_answered, instrument_added, contracts_stay}
use Rattle.contracts.proofs.table.ContractTable.add_instrument.Given as given
use Rattle.contracts.proofs.table.ContractTable.add_instrument.Goals as goal

answer : (g : given.Over) (c : goal.After-push g) → c.push.result ≡ answer_by (instrument_refusal (table_of c.args.self.now).instruments c.args.instrument.number)
answer g c =
    let is = (table_of c.args.self.now).instruments in
    let u = c.args.instrument.number in
    let range : holds_in Instrument (pos u) ≡ true = search rules in
    let fresh : is_numbered u is ≡ false = search rules in
    instrument_answered is u _ _ (length-map (vec_items c.args.self.now.instruments.rows) instr) range fresh c.push.ensures.answer

pub invariant_of-self-clause-instruments_kept : goal.invariant_of-self-clause-instruments_kept
invariant_of-self-clause-instruments_kept g c =
    let s = c.args.self.now in
    instrument_added s.date.number s.horizon.number (vec_items s.instruments.rows) _ c.args.instrument c.push.result (answer g c) c.push.ensures.rows s.instruments_kept

pub invariant_of-self-clause-contracts_kept : goal.invariant_of-self-clause-contracts_kept
invariant_of-self-clause-contracts_kept g c =
    let s = c.args.self.now in
    contracts_stay s.date.number s.horizon.number (vec_items s.instruments.rows) _ c.args.instrument c.push.result (answer g c) c.push.ensures.rows (table_of s).contracts s.contracts_kept
