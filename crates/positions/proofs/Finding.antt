-- The last place of which a test holds, and the places of the parts of a longer contract, one after another.
use Rattle.std.proofs.Common.{◌≡◌, ℕ, zero, suc, ◌+◌, ◌-◌, ◌*◌, ◌<◌, Bool, true, false, ◌&&◌, List, [], ◌∷◌, ◌++◌, map, length, get_or, Some, None, Option, sym, refl, ap, ◌∙◌, inl, inr, append_assoc, arith}
use Rattle.std.specs.Option.{MatchOption}
use Rattle.std.proofs.lemmas.List.{length-map, length_push}
use Rattle.std.proofs.lemmas.Bool.{cases_lt, cond-true, cond-false, false≢true}
use Rattle.calendar.specs.declared.maturity.Maturity.{Maturity}
use Rattle.contracts.specs.Lines.{any_below}
use Rattle.contracts.specs.Rows.{listed}
use Rattle.contracts.specs.Table.{Listed, Table, blank, size}
use Rattle.contracts.specs.declared.contract.Contract.{Contract}
use Rattle.contracts.proofs.Searches.{any_from, any_false}
use Rattle.positions.specs.Netted.{seek, starts_in, parts, all_there}
use Rattle.positions.specs.Tiers.{Sought}

seek_last : (p : ℕ → Bool) (n i : ℕ) → i < n → p i ≡ true → ((k : ℕ) → i < k → k < n → p k ≡ false) → i ≡ seek p n
unfolding seek
seek_last p zero i h e later = absurd (omega arith)
seek_last p (suc n) i h e later = elim (cases_lt i n) [
  | inl a ↦ seek_last p n i a e (λ k l m. later k l (omega arith)) ∙ sym (cond-false (p n) n (seek p n) (later n a (omega arith)))
  | inr a ↦ (let same : i ≡ n = omega arith in same ∙ sym (cond-true (p n) n (seek p n) (ap p (sym same) ∙ e)))
]

-- a contract of the items is the row at its place
row_of : (items : List Contract) (i : ℕ) → i < length items → (x : Contract) × (listed (get_or items i x) ≡ get_or (map listed items) i blank)
row_of [] i h = absurd (omega arith)
row_of (y ∷ ys) zero h = (y, refl)
row_of (y ∷ ys) (suc i) h = row_of ys i (omega arith)

-- what the walk from the end tells
pub sought_last : (p : Listed → Bool) (items : List Contract) (o : Option ℕ) →
    MatchOption o ((k : ℕ) (x : Contract) → k < length items → p (listed (get_or items k x)) ≡ false) (λ i. (i < length items) × ((x : Contract) → p (listed (get_or items i x)) ≡ true) × ((k : ℕ) (x : Contract) → i < k → k < length items → p (listed (get_or items k x)) ≡ false)) →
    Sought (λ k. p (get_or (map listed items) k blank)) (length (map listed items)) o
sought_last p items None none =
    let n = length-map items listed in
    any_false _ _ (λ k h. let r = row_of items k (omega arith) in ap p (sym r.1) ∙ none k r.0 (omega arith))
sought_last p items (Some i) found =
    let n = length-map items listed in
    let r = row_of items i found.0 in
    let here : p (get_or (map listed items) i blank) ≡ true = ap p (sym r.1) ∙ found.1 r.0 in (
      any_from _ _ i (omega (arith, found.0)) here,
      seek_last (λ k. p (get_or (map listed items) k blank)) _ i (omega (arith, found.0)) here (λ k l h. let s = row_of items k (omega arith) in ap p (sym s.1) ∙ found.2 k s.0 l (omega arith)),
    )

and_on : (a b : Bool) → a ≡ true → (a && b) ≡ b
and_on true b e = refl
and_on false b e = absurd (false≢true e)

-- ---- the parts of a longer contract, of which k have been found
pub record Sofar (t : Table) (v : ℕ) (x : Maturity) (n month count : ℕ) (places : List ℕ) (k : ℕ) : Type 0 where
  pub long : length places ≡ k
  pub there : all_there t v x n (month + n * k) (count - k) ≡ all_there t v x n month count
  pub row : places ++ parts t v x n (month + n * k) (count - k) ≡ parts t v x n month count

module _ {t : Table} {v : ℕ} {x : Maturity} {n month count : ℕ} {places : List ℕ} {k : ℕ} (so : Sofar t v x n month count places k) (h : k < count) where
  left : count - k ≡ suc (count - (k + 1))
  left = omega arith

  next : month + n * k + n ≡ month + n * (k + 1)
  next = omega arith

  pub one_more : (i : ℕ) (more : List ℕ) → more ≡ places ++ i ∷ [] → Sought (starts_in t v x (month + n * k)) (size t) (Some i) → Sofar t v x n month count more (k + 1)
  one_more i more e s =
      let here = sym (ap (all_there t v x n (month + n * k)) left) ∙ so.there in
      let start = month + n * k in
      let rest = parts t v x n (start + n) (count - (k + 1)) in
      record {
        long = ap length e ∙ length_push places i ∙ ap (λ m. m + 1) so.long;
        there = ap (λ m. all_there t v x n m (count - (k + 1))) (sym next) ∙ sym (and_on (any_below (starts_in t v x start) (size t)) (all_there t v x n (start + n) (count - (k + 1))) s.0) ∙ here;
        row =
            ap (λ m. more ++ parts t v x n m (count - (k + 1))) (sym next)
            ∙ ap (λ (f : List ℕ). f ++ rest) e
            ∙ append_assoc places (i ∷ []) rest
            ∙ ap (λ j. places ++ (j ∷ rest)) s.1
            ∙ ap (λ (r : List ℕ). places ++ r) (sym (ap (parts t v x n start) left)) ∙ so.row;
      }
