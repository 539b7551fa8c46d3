use Rattle.std.proofs.Common.{Err, vec_items, sym, ap, ◌∙◌}
use Rattle.std.proofs.lemmas.List.{length-map}
use Rattle.std.proofs.lemmas.Result.{err_from_is_err_and}
use Rattle.contracts.specs.Rows.{listed, said_in}
use Rattle.contracts.specs.Rules.{answer_by, contract_refusal}
use Rattle.contracts.specs.Table.{Listed}
use Rattle.contracts.specs.Views.{table_of}
use Rattle.contracts.proofs.Keeping.{none_told, some_told, by_terms, answered, contract_added}
use Rattle.contracts.proofs.table.ContractTable.add_contract.Goals as goal

pub returns-in_err-contract-clause-answer : goal.returns-in_err-contract-clause-answer
returns-in_err-contract-clause-answer g c =
    let p = err_from_is_err_and c.from_residual.result c.from_residual.ensures.1 in
    p.1 ∙ ap Err p.2 ∙ ap answer_by (sym (by_terms (table_of c.args.self.now) (said_in c.args.terms) _ (some_told _ _ c.in_err-contract.ensures.answer)))

pub invariant_of-self-clause-contracts_kept : goal.invariant_of-self-clause-contracts_kept
invariant_of-self-clause-contracts_kept g c =
    let s = c.args.self.now in
    let x = c.in_ok-contract.contract in
    let same = ap said_in c.in_ok-contract.ensures.terms in
    let answer = answered (table_of s) (said_in c.args.terms) _ _ (length-map (vec_items s.contracts.rows) listed) (none_told _ c.in_ok-contract.ensures.answer) c.push.ensures.answer in
    contract_added s.date.number s.horizon.number (table_of s).instruments (vec_items s.contracts.rows) _ x c.push.result (answer ∙ ap (λ (y : Listed). answer_by (contract_refusal (table_of s) y)) (sym same)) c.push.ensures.rows s.contracts_kept

pub returns-clause-answer : goal.returns-clause-answer
returns-clause-answer g c =
    let s = c.args.self.now in
    answered (table_of s) (said_in c.args.terms) _ _ (length-map (vec_items s.contracts.rows) listed) (none_told _ c.in_ok-contract.ensures.answer) c.push.ensures.answer
