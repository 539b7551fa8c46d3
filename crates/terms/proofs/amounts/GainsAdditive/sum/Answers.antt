use Rattle.std.proofs.Common.{◌≡◌, ◌<◌, get_or, ℤ, pos, ◌+ℤ◌, nat_abs, ap, refl, arith, rules, w64, SFits, of_z, to_z}
use borrow.Author.Differences.{ints, abs_is}
use Rattle.std.proofs.lemmas.Int.{to_z-of_z}
use Rattle.std.proofs.lemmas.Fn.{serves_by}
use Rattle.terms.proofs.GainRows.{at_size, made_each}
use Rattle.terms.proofs.amounts.GainsAdditive.sum.Goals as goal

pub from_fn-each-requires : goal.from_fn-each-requires
from_fn-each-requires c = (
  search rules,
  serves_by _ (λ xs f. (f.0.now ≡ c.args.self.each) × (f.1.now ≡ c.args.other.each)) (λ xs f i g kept call. search rules) _ _ _ _ (refl, refl) (λ xs t f i u yields step kept.
      let x : ℤ = get_or f.0.now i (pos 0) in
      let y : ℤ = get_or f.1.now i (pos 0) in
      let a = at_size c.args.self.each i in
      let b = at_size c.args.other.each i in
      let p = ap (λ row. nat_abs (get_or row i (pos 0))) kept.0 in
      let q = ap (λ row. nat_abs (get_or row i (pos 0))) kept.1 in
      let fx : SFits w64 x = omega (arith, ints, abs_is) in
      let fy : SFits w64 y = omega (arith, ints, abs_is) in
      let fs : SFits w64 (x +ℤ y) = omega (arith, ints, abs_is) in
      let low : i < 16 = omega (arith, step.0, step.1) in
      search rules),
)

pub returns : goal.returns
returns c =
    ap (λ xs. record { each = xs }) (made_each _ _ c.args.self.each c.args.other.each _ _ (search rules) (search rules) c.from_fn-each.ensures.items (λ i r q low call.
    let x : ℤ = get_or c.args.self.each i (pos 0) in
    let y : ℤ = get_or c.args.other.each i (pos 0) in
    let a = at_size c.args.self.each i in
    let b = at_size c.args.other.each i in
    let fx : SFits w64 x = omega (arith, ints, abs_is) in
    let fy : SFits w64 y = omega (arith, ints, abs_is) in
    let fs : SFits w64 (x +ℤ y) = omega (arith, ints, abs_is) in
    let said : r ≡ to_z w64 (of_z w64 (to_z w64 (of_z w64 x) +ℤ to_z w64 (of_z w64 y))) = search rules in
    (simp to_z-of_z at said, search rules)))
