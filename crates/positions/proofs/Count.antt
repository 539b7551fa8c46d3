-- Each line of the table stands in the list once.
use Rattle.std.proofs.Common.{◌≡◌, ℕ, zero, suc, ◌+◌, ◌-◌, ◌<◌, ◌≤◌, Bool, true, false, cond, ◌&&◌, eqb, ◌⊎◌, List, [], ◌∷◌, ◌++◌, map, length, get_or, ℤ, pos, ◌+ℤ◌, sym, refl, ap, ◌∙◌, subst, inl, inr, arith}
use lib.IntN.{+ℤ_idl, +ℤ_idr}
use borrow.Author.Differences.{ints}
use Rattle.std.specs.List.{range_with_len, AllByRecursion as All}
use Rattle.std.proofs.lemmas.Bool.{cases_Bool, and_parts, and_from, and_left, or_cases, or_left, or_right, eq-eqb, ne_eqb, eqb-true, both_ways, cases_eq, false≢true, cond-true, cond-false}
use Rattle.days.specs.Months.{month_of}
use Rattle.contracts.specs.Table.{Listed, Table, numbers, blank, nth, size}
use Rattle.contracts.specs.Lines.{Line, day, rest, own, has_line, owns, timely, all_timely, lines}
use Rattle.positions.specs.Net.{is_in}
use Rattle.positions.specs.Sums.{sum_of}
use Rattle.positions.proofs.SumLaws.{sum_of_if, sum_of_append, sum_of_same}
use Rattle.positions.specs.Steps.{Distinct}
use Rattle.positions.proofs.Good.{Good}
use Rattle.positions.proofs.Taking.{OfTable}

pub and_on : (a b : Bool) → a ≡ true → (a && b) ≡ b
and_on true b e = refl
and_on false b e = absurd (false≢true e)

abbrev pub same : Line → Line → Bool
same (day u e) (day w x) = eqb w u && eqb x e
same (day u e) (rest w x) = false
same (day u e) (own x) = false
same (rest u e) (day w x) = false
same (rest u e) (rest w x) = eqb w u && eqb x e
same (rest u e) (own x) = false
same (own e) (day w x) = false
same (own e) (rest w x) = false
same (own e) (own x) = eqb x e

pub same_refl : (l : Line) → same l l ≡ true
same_refl (day u e) = and_from (eqb u u) (eqb e e) (eq-eqb u u refl) (eq-eqb e e refl)
same_refl (rest u m) = and_from (eqb u u) (eqb m m) (eq-eqb u u refl) (eq-eqb m m refl)
same_refl (own i) = eq-eqb i i refl

pub same_true : (l m : Line) → same l m ≡ true → m ≡ l
same_true (day u e) (day w x) h = let a = and_parts (eqb w u) (eqb x e) h in ap (λ z. day z x) (eqb-true w u a.0) ∙ ap (day u) (eqb-true x e a.1)
same_true (day u e) (rest w x) h = absurd (false≢true h)
same_true (day u e) (own x) h = absurd (false≢true h)
same_true (rest u e) (day w x) h = absurd (false≢true h)
same_true (rest u e) (rest w x) h = let a = and_parts (eqb w u) (eqb x e) h in ap (λ z. rest z x) (eqb-true w u a.0) ∙ ap (rest u) (eqb-true x e a.1)
same_true (rest u e) (own x) h = absurd (false≢true h)
same_true (own e) (day w x) h = absurd (false≢true h)
same_true (own e) (rest w x) h = absurd (false≢true h)
same_true (own e) (own x) h = ap own (eqb-true x e h)

sum_of_zero : {X : Type 0} (f : X → ℤ) (xs : List X) → ((x : X) → f x ≡ pos 0) → sum_of f xs ≡ pos 0
sum_of_zero f [] h = refl
sum_of_zero f (x ∷ xs) h = let e = h x in let i = sum_of_zero f xs h in omega (arith, ints)

sum_of_map : {X Y : Type 0} (f : Y → ℤ) (g : X → Y) (xs : List X) → sum_of f (map g xs) ≡ sum_of (λ x. f (g x)) xs
sum_of_map f g [] = refl
sum_of_map f g (x ∷ xs) = ap (λ s. f (g x) +ℤ s) (sum_of_map f g xs)

abbrev pick : ℤ → (Line → Bool) → Line → ℤ
pick v p l = cond (p l) v (pos 0)

abbrev at : ℤ → ℕ → ℕ → ℤ
at v e x = cond (eqb x e) v (pos 0)

-- ---- the days
days_past : (v : ℤ) (e a n : ℕ) → e < a → sum_of (at v e) (range_with_len a n) ≡ pos 0
days_past v e a zero h = refl
days_past v e a (suc n) h =
    let z = cond-false (eqb a e) v (pos 0) (ne_eqb a e (λ x. omega arith)) in
    let r = days_past v e (a + 1) n (omega arith) in
    omega (arith, ints)

days_one : (v : ℤ) (e a n : ℕ) → a ≤ e → e < a + n → sum_of (at v e) (range_with_len a n) ≡ v
days_one v e a zero h k = absurd (omega arith)
days_one v e a (suc n) h k = elim (cases_eq a e) [
  | inl x ↦ (
      let z = cond-true (eqb a e) v (pos 0) (eq-eqb a e x) in
      let r = days_past v e (a + 1) n (omega arith) in
      omega (arith, ints))
  | inr x ↦ (
      let z = cond-false (eqb a e) v (pos 0) (ne_eqb a e x) in
      let r = days_one v e (a + 1) n (omega arith) (omega arith) in
      omega (arith, ints))
]

-- ---- the own lines
cond_zero : (b : Bool) (x : ℤ) → x ≡ pos 0 → cond b x (pos 0) ≡ pos 0
cond_zero true x e = e
cond_zero false x e = refl

module _ (t : Table) (v : ℤ) where
  owns_none : (p : Line → Bool) → ((i : ℕ) → p (own i) ≡ false) → (i : ℕ) (cs : List Listed) → sum_of (pick v p) (owns t i cs) ≡ pos 0
  owns_none p h i [] = refl
  owns_none p h i (c ∷ cs) =
      let a = sum_of_if (pick v p) (has_line t c) (own i) (owns t (suc i) cs) in
      let z = cond_zero (has_line t c) (pick v p (own i)) (cond-false (p (own i)) v (pos 0) (h i)) in
      let r = owns_none p h (suc i) cs in
      a ∙ ap (λ x. x +ℤ sum_of (pick v p) (owns t (suc i) cs)) z ∙ +ℤ_idl _ ∙ r

  owns_past : (j i : ℕ) (cs : List Listed) → j < i → sum_of (pick v (same (own j))) (owns t i cs) ≡ pos 0
  owns_past j i [] h = refl
  owns_past j i (c ∷ cs) h =
      let a = sum_of_if (pick v (same (own j))) (has_line t c) (own i) (owns t (suc i) cs) in
      let z = cond_zero (has_line t c) (pick v (same (own j)) (own i)) (cond-false (eqb i j) v (pos 0) (ne_eqb i j (λ x. omega arith))) in
      let r = owns_past j (suc i) cs (omega arith) in
      a ∙ ap (λ x. x +ℤ sum_of (pick v (same (own j))) (owns t (suc i) cs)) z ∙ +ℤ_idl _ ∙ r

  owns_one : (i m : ℕ) (cs : List Listed) → m < length cs → has_line t (get_or cs m blank) ≡ true → sum_of (pick v (same (own (i + m)))) (owns t i cs) ≡ v
  owns_one i m [] h e = absurd (omega arith)
  owns_one i zero (c ∷ cs) h e =
      let a = sum_of_if (pick v (same (own (i + 0)))) (has_line t c) (own i) (owns t (suc i) cs) in
      let z : cond (has_line t c) (pick v (same (own (i + 0))) (own i)) (pos 0) ≡ v = cond-true (has_line t c) _ (pos 0) e ∙ cond-true (eqb i (i + 0)) v (pos 0) (eq-eqb i (i + 0) (omega arith)) in
      let r = owns_past (i + 0) (suc i) cs (omega arith) in
      a ∙ ap (λ x. x +ℤ sum_of (pick v (same (own (i + 0)))) (owns t (suc i) cs)) z ∙ ap (λ x. v +ℤ x) r ∙ +ℤ_idr v
  owns_one i (suc m) (c ∷ cs) h e =
      let a = sum_of_if (pick v (same (own (i + suc m)))) (has_line t c) (own i) (owns t (suc i) cs) in
      let z = cond_zero (has_line t c) (pick v (same (own (i + suc m))) (own i)) (cond-false (eqb i (i + suc m)) v (pos 0) (ne_eqb i (i + suc m) (λ x. omega arith))) in
      let step : suc i + m ≡ i + suc m = omega arith in
      let r : sum_of (pick v (same (own (i + suc m)))) (owns t (suc i) cs) ≡ v = subst (λ x. sum_of (pick v (same (own x))) (owns t (suc i) cs) ≡ v) step (owns_one (suc i) m cs (omega arith) e) in
      a ∙ ap (λ x. x +ℤ sum_of (pick v (same (own (i + suc m)))) (owns t (suc i) cs)) z ∙ +ℤ_idl _ ∙ r

-- ---- all that stands in the list is a line of the table
all_append : {X : Type 0} (P : X → Type 0) (xs ys : List X) → All P xs → All P ys → All P (xs ++ ys)
all_append P [] ys a b = b
all_append P (x ∷ xs) ys a b = (a.0, all_append P xs ys a.1 b)

module _ (t : Table) (good : Good t) where
  all_days : (u a n : ℕ) → is_in u (numbers t) ≡ true → t.date < a → a + n ≤ t.horizon + 1 → All (OfTable t good) (map (day u) (range_with_len a n))
  all_days u a zero g h b = tt
  all_days u a (suc n) g h b = ((g, h, omega arith), all_days u (a + 1) n g (omega arith) (omega arith))

  all_owns : (i : ℕ) (cs : List Listed) → ((m : ℕ) → m < length cs → (i + m < size t) × (nth t (i + m) ≡ get_or cs m blank)) → All (OfTable t good) (owns t i cs)
  all_owns i [] h = tt
  all_owns i (c ∷ cs) h = by (cases_Bool (has_line t c)) (all_owns (suc i) cs (λ m l. (let g = h (suc m) (omega arith) in let e : i + suc m ≡ suc i + m = omega arith in (omega arith, ap (nth t) (sym e) ∙ g.1))))
    where
      by : (has_line t c ≡ true) ⊎ (has_line t c ≡ false) → All (OfTable t good) (owns t (suc i) cs) → All (OfTable t good) (owns t i (c ∷ cs))
      by (inl e) r = subst (All (OfTable t good)) (sym (cond-true (has_line t c) (own i ∷ owns t (suc i) cs) (owns t (suc i) cs) e)) ((let g = h 0 (omega arith) in let z : i + 0 ≡ i = omega arith in (omega arith, ap (has_line t) (ap (nth t) (sym z) ∙ g.1) ∙ e)), r)
      by (inr e) r = subst (All (OfTable t good)) (sym (cond-false (has_line t c) (own i ∷ owns t (suc i) cs) (owns t (suc i) cs) e)) r

  each_timely : (us : List ℕ) → ((u : ℕ) → is_in u us ≡ true → is_in u (numbers t) ≡ true) → All (OfTable t good) (all_timely t us)
  each_timely [] h = tt
  each_timely (u ∷ us) h =
      let g : is_in u (numbers t) ≡ true = h u (or_left (eqb u u) (is_in u us) (eq-eqb u u refl)) in
      all_append (OfTable t good) (timely t u) (all_timely t us)
      (all_append (OfTable t good) (map (day u) (range_with_len (t.date + 1) (t.horizon - t.date))) _ (all_days u (t.date + 1) (t.horizon - t.date) g (omega arith) (let a = good.ahead in omega arith)) ((g, inl refl), ((g, inr refl), tt)))
      (each_timely us (λ w e. h w (or_right (eqb w u) (is_in w us) e)))

  pub all_listed : All (OfTable t good) (lines t)
  all_listed =
      all_append (OfTable t good) (all_timely t (numbers t)) (owns t 0 t.contracts) (each_timely (numbers t) (λ u e. e))
      (all_owns 0 t.contracts (λ m l. (let z : 0 + m ≡ m = omega arith in (omega arith, ap (nth t) z))))

  -- ---- and each line stands there once
  module _ (v : ℤ) (p : Line → Bool) where
    -- p holds of no line of the instrument
    abbrev Elsewhere : ℕ → Type 0
    Elsewhere w = ((x : ℕ) → p (day w x) ≡ false) × ((x : ℕ) → p (rest w x) ≡ false)

    timely_none : (w : ℕ) → Elsewhere w → sum_of (pick v p) (timely t w) ≡ pos 0
    timely_none w h =
        let ds = range_with_len (t.date + 1) (t.horizon - t.date) in
        let m = month_of t.date in
        let a = sum_of_append (pick v p) (map (day w) ds) (rest w m ∷ rest w (m + 1) ∷ []) in
        let b = sum_of_map (pick v p) (day w) ds ∙ sum_of_zero (λ x. pick v p (day w x)) ds (λ x. cond-false (p (day w x)) v (pos 0) (h.0 x)) in
        let x = cond-false (p (rest w m)) v (pos 0) (h.1 m) in
        let y = cond-false (p (rest w (m + 1))) v (pos 0) (h.1 (m + 1)) in
        omega (arith, ints)

    timely_all_none : (us : List ℕ) → ((w : ℕ) → is_in w us ≡ true → Elsewhere w) → sum_of (pick v p) (all_timely t us) ≡ pos 0
    timely_all_none [] h = refl
    timely_all_none (w ∷ us) h =
        let a = sum_of_append (pick v p) (timely t w) (all_timely t us) in
        let b = timely_none w (h w (or_left (eqb w w) (is_in w us) (eq-eqb w w refl))) in
        let c = timely_all_none us (λ x e. h x (or_right (eqb x w) (is_in x us) e)) in
        omega (arith, ints)

    module _ (u : ℕ) (other : (w : ℕ) → eqb w u ≡ false → Elsewhere w) (here : sum_of (pick v p) (timely t u) ≡ v) where
      timely_once : (us : List ℕ) → Distinct us → is_in u us ≡ true → sum_of (pick v p) (all_timely t us) ≡ v
      timely_once [] h e = absurd (false≢true e)
      timely_once (w ∷ us) h e = elim (cases_Bool (eqb u w)) [
        | inl x ↦ (
            let a = sum_of_append (pick v p) (timely t w) (all_timely t us) in
            let b : sum_of (pick v p) (timely t w) ≡ v = subst (λ z. sum_of (pick v p) (timely t z) ≡ v) (eqb-true u w x) here in
            let c = timely_all_none us (λ z g. other z (ne_eqb z u (λ q. both_ways (is_in w us) h.0 (subst (λ y. is_in y us ≡ true) (q ∙ eqb-true u w x) g)))) in
            omega (arith, ints))
        | inr x ↦ (
            let a = sum_of_append (pick v p) (timely t w) (all_timely t us) in
            let b = timely_none w (other w (ne_eqb w u (λ q. both_ways (eqb u w) x (eq-eqb u w (sym q))))) in
            let c = timely_once us h.1 (elim (or_cases (eqb u w) (is_in u us) e) [ inl y ↦ absurd (both_ways (eqb u w) x y) | inr y ↦ y ]) in
            omega (arith, ints))
      ]

  pub once : (v : ℤ) (l : Line) → OfTable t good l → sum_of (λ m. cond (same l m) v (pos 0)) (lines t) ≡ v
  once v (day u e) h =
      let ds = range_with_len (t.date + 1) (t.horizon - t.date) in
      let m = month_of t.date in
      let p = same (day u e) in
      let here : sum_of (pick v p) (timely t u) ≡ v = (
      let a = sum_of_append (pick v p) (map (day u) ds) (rest u m ∷ rest u (m + 1) ∷ []) in
      let b = sum_of_map (pick v p) (day u) ds ∙ sum_of_same (λ x. pick v p (day u x)) (at v e) ds (λ x. ap (λ y. cond y v (pos 0)) (and_on (eqb u u) (eqb x e) (eq-eqb u u refl))) ∙ days_one v e (t.date + 1) (t.horizon - t.date) (omega (arith, h.1)) (omega (arith, h.1, h.2)) in
      omega (arith, ints)) in
      let a = sum_of_append (pick v p) (all_timely t (numbers t)) (owns t 0 t.contracts) in
      let b = timely_once v p u (λ w x. (λ y. and_left (eqb w u) (eqb y e) x, λ y. refl)) here (numbers t) good.once h.0 in
      let c = owns_none t v p (λ i. refl) 0 t.contracts in
      omega (arith, ints)
  once v (rest u n) h =
      let ds = range_with_len (t.date + 1) (t.horizon - t.date) in
      let m = month_of t.date in
      let p = same (rest u n) in
      let days : sum_of (pick v p) (map (day u) ds) ≡ pos 0 = sum_of_map (pick v p) (day u) ds ∙ sum_of_zero (λ x. pick v p (day u x)) ds (λ x. refl) in
      let row = sum_of_append (pick v p) (map (day u) ds) (rest u m ∷ rest u (m + 1) ∷ []) in
      let here : sum_of (pick v p) (timely t u) ≡ v = elim h.1 [
        | inl e ↦ (
            let x = ap (λ y. cond y v (pos 0)) (and_on (eqb u u) (eqb m n) (eq-eqb u u refl)) ∙ cond-true (eqb m n) v (pos 0) (eq-eqb m n (sym e)) in
            let y = ap (λ y. cond y v (pos 0)) (and_on (eqb u u) (eqb (m + 1) n) (eq-eqb u u refl)) ∙ cond-false (eqb (m + 1) n) v (pos 0) (ne_eqb (m + 1) n (λ z. omega arith)) in
            omega (arith, ints))
        | inr e ↦ (
            let x = ap (λ y. cond y v (pos 0)) (and_on (eqb u u) (eqb m n) (eq-eqb u u refl)) ∙ cond-false (eqb m n) v (pos 0) (ne_eqb m n (λ z. omega arith)) in
            let y = ap (λ y. cond y v (pos 0)) (and_on (eqb u u) (eqb (m + 1) n) (eq-eqb u u refl)) ∙ cond-true (eqb (m + 1) n) v (pos 0) (eq-eqb (m + 1) n (sym e)) in
            omega (arith, ints))
      ] in
      let a = sum_of_append (pick v p) (all_timely t (numbers t)) (owns t 0 t.contracts) in
      let b = timely_once v p u (λ w x. (λ y. refl, λ y. and_left (eqb w u) (eqb y n) x)) here (numbers t) good.once h.0 in
      let c = owns_none t v p (λ i. refl) 0 t.contracts in
      omega (arith, ints)
  once v (own i) h =
      let p = same (own i) in
      let z : 0 + i ≡ i = omega arith in
      let a = sum_of_append (pick v p) (all_timely t (numbers t)) (owns t 0 t.contracts) in
      let b = timely_all_none v p (numbers t) (λ w e. (λ y. refl, λ y. refl)) in
      let c : sum_of (pick v p) (owns t 0 t.contracts) ≡ v = subst (λ x. sum_of (pick v (same (own x))) (owns t 0 t.contracts) ≡ v) z (owns_one t v 0 i t.contracts h.0 h.1) in
      omega (arith, ints)
