use Rattle.std.proofs.Common.{◌≡◌, ◌≤◌, None, length, vec_items, vec_len, Vec, ap, arith, rules}
use Rattle.std.specs.declared.alloc.Global.{Global}
use Rattle.contracts.specs.Views.{table_of}
use Rattle.contracts.specs.declared.table.ContractTable.{ContractTable}
use Rattle.books.specs.State.{are_apart}
use Rattle.books.specs.declared.entry.Listing.{Listing}
use Rattle.opening.specs.Rows.{opened_in}
use Rattle.opening.specs.Rules.{account_refusal, opening_refusal, limit_refusal}
use Rattle.opening.specs.Views.{listings_of}
use Rattle.opening.proofs.Keeping.{kept_none}
use Rattle.opening.proofs.Listed.{few_contracts}
use Rattle.opening.proofs.Placing.{none_placed, blank_all, all_within}
use Rattle.opening.proofs.opening.Opening.on.Goals as goal

few : {P : Type 0} (t : ContractTable P) (v : Vec Listing Global) → vec_items v ≡ listings_of (table_of t) → vec_len v ≤ 128
few t v e = omega (arith, v.ok.0, ap length e, few_contracts (table_of t) t.contracts_kept)

pub overflow_mul-len : goal.overflow_mul-len
overflow_mul-len g c = omega (arith, c.len.ensures, few c.args.table.now c.in_ok-listings.listings c.in_ok-listings.ensures)

pub invariant_of-result : goal.invariant_of-result
invariant_of-result g c =
    let ls = vec_items c.in_ok-listings.listings in
    let n = vec_len c.in_ok-listings.listings in
    let xs = vec_items c.in_ok-new.field-0.rows in
    let rs = vec_items c.in_ok-new-2.field-0.rows in
    let ys = vec_items c.in_ok-amounts.amounts in
    let none = c.in_ok-new.ensures in
    let kept = kept_none (opening_refusal xs ls) rs c.in_ok-new-2.ensures in
    let told = none_placed xs ls n ys None (opened_in rs) none in
    record {
      listings_few = few c.args.table.now c.in_ok-listings.listings c.in_ok-listings.ensures;
      amounts_long = omega (arith, c.in_ok-amounts.ensures.len, c.len.ensures);
      apart = ap are_apart none;
      accounts_kept = kept_none account_refusal xs none;
      rows_kept = kept;
      limits_kept = kept_none (limit_refusal ls) _ c.in_ok-new-3.ensures;
      told = told;
      within = all_within xs ls n ys rs told kept;
      blank = blank_all _ _ ys None (c.in_ok-amounts.ensures.items_if_clones_equal (λ y e. search rules));
    }
