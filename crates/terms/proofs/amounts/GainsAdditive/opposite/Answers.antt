use Rattle.std.proofs.Common.{◌≡◌, pos, ◌-ℤ◌, neg_ℤ, ap, ◌∙◌, arith, rules, w64, SFits, of_z, to_z}
use borrow.Author.Differences.{ints, abs_is}
use Rattle.std.proofs.lemmas.Int.{to_z-of_z}
use Rattle.terms.proofs.GainRows.{turn_size, mapped, minus_is}
use Rattle.terms.proofs.amounts.GainsAdditive.opposite.Goals as goal

pub map-each-requires : goal.map-each-requires
map-each-requires c = (
  search rules,
  (
    search rules,
    (
      search rules,
      record {
        at = λ xs t q x u yields calls step.
            let size = turn_size _ _ xs x u yields step in
            let fx : SFits w64 x = omega (arith, ints, abs_is) in
            let fs : SFits w64 (pos 0 -ℤ x) = omega (arith, ints, abs_is) in
            search rules;
      },
    ),
  ),
)

pub returns : goal.returns
returns c =
    ap (λ xs. record { each = xs }) (mapped _ _ _ _ _ neg_ℤ c.map-each.ensures.items (search rules) (λ x r p q size call.
    let fx : SFits w64 x = omega (arith, ints, abs_is) in
    let fs : SFits w64 (pos 0 -ℤ x) = omega (arith, ints, abs_is) in
    let said : r ≡ to_z w64 (of_z w64 (pos 0 -ℤ to_z w64 (of_z w64 x))) = search rules in
    simp to_z-of_z at said ∙ minus_is x))
