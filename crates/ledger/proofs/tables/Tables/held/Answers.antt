use Rattle.std.proofs.Common.{ℕ, ◌+◌, ◌<◌, ◌≤◌, List, ℤ, get_or, length, nat_abs, vec_items, sym, ap, ◌∙◌, subst, arith, w64, SFits, rules}
use Rattle.std.proofs.lemmas.Int.{to_z-of_z}
use Rattle.books.specs.Limits.{is_of}
use Rattle.books.specs.declared.entry.Account.{Account}
use Rattle.ledger.specs.Views.{net_of, nobody}
use Rattle.ledger.proofs.Summing.{Summed, one_summed, none_summed}
use Rattle.ledger.proofs.tables.Tables.held.Goals.{then-has, else-has}
use Rattle.ledger.proofs.tables.Tables.held.Goals as goal

pub loop-row-preserved : goal.loop-row-preserved
loop-row-preserved c =
    let t = c.args.self.now in
    let ys = vec_items t.accounts in
    let row = c.loop-row.row in
    let xs = c.loop-row.nets.items in
    let f : ℕ → ℤ = λ a. net_of t a c.args.contract in
    let low : row < length ys = omega (arith, c.loop-row-test.true, c.deref-account-items.ensures.len, t.accounts.ok.0) in
    let here = ap (λ (zs : List Account). is_of c.args.whose (get_or zs row nobody)) c.deref-account-items.ensures.value in
    elim c.if-has.branch [
      | then-has w ↦ (
          let fits : SFits w64 w.net_at.result = search rules in
          let same = to_z-of_z w64 w.net_at.result fits in
          let pushed = ap (λ v. v.items) w.nets-is ∙ w.push.ensures.items in
          subst (λ (zs : List ℤ). Summed c.args.whose f ys zs (row + 1)) (sym pushed)
          (one_summed c.args.whose f ys xs row _ c.loop-row.invariant low (sym (w.if-has.ensures ∙ here)) (same ∙ w.net_at.ensures.value) (subst (λ (y : ℤ). nat_abs y ≤ 10000) (sym same) w.net_at.ensures.bound)))
      | else-has w ↦
          subst (λ (zs : List ℤ). Summed c.args.whose f ys zs (row + 1)) (sym (ap (λ v. v.items) w.nets-is))
          (none_summed c.args.whose f ys xs row c.loop-row.invariant low (sym (w.if-has.ensures ∙ here)))
    ]
