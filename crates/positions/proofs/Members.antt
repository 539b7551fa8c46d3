-- The members of a relation of a table: places of the table, none twice.
use Rattle.std.proofs.Common.{◌≡◌, ℕ, zero, suc, ◌<◌, true, false, Some, None, Option, refl, List, [], ◌∷◌, length, get_or, sym, ap, ◌∙◌, subst, arith}
use Rattle.arrayvec.specs.ArrayVec.{ArrayVec}
use Rattle.days.specs.Months.{month_of}
use Rattle.contracts.specs.Table.{Listed, Table, nth, size}
use Rattle.contracts.specs.Views.{table_of}
use Rattle.contracts.specs.declared.table.ContractTable.{ContractTable}
use Rattle.positions.specs.Netted as spec
use Rattle.positions.specs.Netted.{is_listed, parts, relation_of}
use Rattle.positions.specs.Steps.{Distinct}
use Rattle.positions.specs.Tiers.{tier_of, is_netted, PartsOf}
use Rattle.positions.specs.declared.tier.Tier.{Tier}
use Rattle.positions.specs.declared.tier.Tier.TheVariants.{Years, Seasons, Quarters}
use Rattle.positions.proofs.Conserving.{Below}
use Rattle.positions.proofs.Good.{Good, good}
use Rattle.positions.proofs.Kept.{sound_years, sound_seasons, sound_quarters}
use Rattle.positions.proofs.Parts.{Sound, relation_whole}

sound : (t : Table) (g : Good t) (tier : Tier) → Sound t (tier_of tier)
sound t g Years = sound_years t g
sound t g Seasons = sound_seasons t g
sound t g Quarters = sound_quarters t g

below_at : (n : ℕ) (os : List ℕ) → Below n os → (j : ℕ) → j < length os → get_or os j 0 < n
below_at n [] b j h = absurd (omega arith)
below_at n (o ∷ os) b zero h = b.0
below_at n (o ∷ os) b (suc j) h = below_at n os b.1 j (omega arith)

-- `found` are the others, as they were found
pub record Members (t : Table) (i n : ℕ) (found : List ℕ) : Type 0 where
  pub below : (j : ℕ) → j < length found → get_or found j 0 < n
  pub apart : Distinct (i ∷ found)

-- they are the parts of the contract at place i
pub record PartsAt (t : Table) (x : spec.Tier) (i : ℕ) (found : List ℕ) : Type 0 where
  pub listed : is_listed t x i ≡ true
  pub others : found ≡ (relation_of t x i).others

pub parts_at : (t : Table) (x : spec.Tier) (i : ℕ) (c : Listed) (found : List ℕ) → nth t i ≡ c → is_netted t x c ≡ true → found ≡ parts t c.instrument x.part x.months (month_of c.first) x.count → PartsAt t x i found
parts_at t x i c found at e is = record { listed = ap (is_netted t x) at ∙ e; others = is ∙ ap (λ (y : Listed). parts t y.instrument x.part x.months (month_of y.first) x.count) (sym at) }

pub not_netted : (t : Table) (x : spec.Tier) (i : ℕ) (c : Listed) (found : Option (ArrayVec ℕ)) → nth t i ≡ c → PartsOf t x c found → ((p : ArrayVec ℕ) → found ≡ Some p → ⊥) → is_listed t x i ≡ false
not_netted t x i c None at h none = ap (is_netted t x) at ∙ h
not_netted t x i c (Some p) at h none = absurd (none p refl)

pub members : {P : Type 0} (s : ContractTable P) (tier : Tier) (i n : ℕ) (found : List ℕ) → n ≡ size (table_of s) → i < n → PartsAt (table_of s) (tier_of tier) i found → Members (table_of s) i n found
members s tier i n found long h at =
    let t = table_of s in
    let w = relation_whole t (tier_of tier) (sound t (good s) tier) 0 0 i (subst (λ k. i < k) long h) at.listed in
    subst (Members t i n) (sym at.others) (record {
      below = λ j l. subst (λ k. get_or (relation_of t (tier_of tier) i).others j 0 < k) (sym long) (below_at (size t) (relation_of t (tier_of tier) i).others w.within.1 j l);
      apart = w.apart;
    })
