-- A year is its four quarters, six months their two, a quarter its months: on each day just one of the parts delivers.
use Rattle.std.proofs.Common.{◌≡◌, ℕ, zero, suc, ◌+◌, ◌*◌, ◌<◌, ◌≤◌, Bool, true, false, cond, not, ◌&&◌, eqb, ltb, leb, ◌⊎◌, List, [], ◌∷◌, sym, refl, ap, ◌∙◌, subst, inl, inr, arith}
use Rattle.std.specs.List.{AllByRecursion as All}
use Rattle.std.proofs.lemmas.Bool.{cases_Bool, and_parts, and_from, and_left, and_right, or_cases, eqb-true, both_ways, cases_lt, false≢true, cond-true, cond-false, le-leb, leb-true, lt-leb, lt-ltb, le-ltb, ltb-true, not_from_false}
use Rattle.days.specs.Months.{month_of}
use Rattle.days.proofs.Tiling.{month_rises}
use Rattle.calendar.specs.Periods.{alike}
use Rattle.calendar.specs.declared.maturity.Maturity.{Maturity}
use Rattle.calendar.specs.declared.maturity.Maturity.TheVariants.{SingleDay, Month}
use Rattle.contracts.specs.Table.{Listed, Table, nth, size, last_day, is_open, covers, option_in}
use Rattle.contracts.specs.Lines.{is_day, any_below, has_line}
use Rattle.positions.specs.Net.{is_in}
use Rattle.positions.specs.Netted.{Tier, starts_in, seek, parts, all_there, whole_of, is_listed, relation_of, relations_over}
use Rattle.positions.proofs.Calendar.{end_same, end_past}
use Rattle.positions.proofs.Signs.{Proper}
use Rattle.positions.proofs.Conserving.{weight, Below, Whole, AllWhole}
use Rattle.positions.specs.Steps.{Distinct}
use Rattle.positions.proofs.Good.{MonthsLong, Rule}
use Rattle.positions.proofs.Taking.{iff_same, covers_true, covers_from}

-- ---- what is sought is found
seek_found : (p : ℕ → Bool) (n : ℕ) → any_below p n ≡ true → (seek p n < n) × (p (seek p n) ≡ true)
unfolding seek any_below
seek_found p zero e = absurd (false≢true e)
seek_found p (suc n) e = elim (cases_Bool (p n)) [
  | inl a ↦ (let z = cond-true (p n) n (seek p n) a in (omega arith, ap p z ∙ a))
  | inr a ↦ (
      let z = cond-false (p n) n (seek p n) a in
      let r = seek_found p n (elim (or_cases (p n) (any_below p n) e) [ inl b ↦ absurd (both_ways (p n) a b) | inr b ↦ b ]) in
      (omega (arith, r.0), ap p z ∙ r.1))
]

-- ---- a stretch of n months from a, at month m
abbrev span : ℕ → ℕ → ℕ → ℕ
span a n m = cond (leb a m && ltb m (a + n)) 1 0

span_yes : (a n m : ℕ) → a ≤ m → m < a + n → span a n m ≡ 1
span_yes a n m h g = cond-true (leb a m && ltb m (a + n)) 1 0 (and_from (leb a m) (ltb m (a + n)) (le-leb a m h) (lt-ltb m (a + n) g))

span_under : (a n m : ℕ) → m < a → span a n m ≡ 0
span_under a n m h = cond-false (leb a m && ltb m (a + n)) 1 0 (and_left (leb a m) (ltb m (a + n)) (lt-leb a m h))

span_over : (a n m : ℕ) → a + n ≤ m → span a n m ≡ 0
span_over a n m h = cond-false (leb a m && ltb m (a + n)) 1 0 (and_right (leb a m) (ltb m (a + n)) (le-ltb m (a + n) h))

span_add : (a n r m : ℕ) → span a (n + r) m ≡ span a n m + span (a + n) r m
span_add a n r m = elim (cases_lt m a) [
  | inl h ↦ (let x = span_under a (n + r) m h in let y = span_under a n m h in let z = span_under (a + n) r m (omega arith) in omega arith)
  | inr h ↦ elim (cases_lt m (a + n)) [
    | inl g ↦ (let x = span_yes a (n + r) m h (omega arith) in let y = span_yes a n m h g in let z = span_under (a + n) r m g in omega arith)
    | inr g ↦ elim (cases_lt m (a + n + r)) [
      | inl f ↦ (let x = span_yes a (n + r) m h (omega arith) in let y = span_over a n m g in let z = span_yes (a + n) r m g f in omega arith)
      | inr f ↦ (let x = span_over a (n + r) m (omega arith) in let y = span_over a n m g in let z = span_over (a + n) r m f in omega arith)
    ]
  ]
]

span_none : (a m : ℕ) → span a 0 m ≡ 0
span_none a m = elim (cases_lt m a) [ inl h ↦ span_under a 0 m h | inr h ↦ span_over a 0 m (omega arith) ]

abbrev pub bit : Bool → ℕ
bit b = cond b 1 0

long_covers : (c : Listed) (n : ℕ) → MonthsLong c n → (d : ℕ) → bit (covers c d) ≡ span (month_of c.first) n (month_of d)
long_covers c n h d = ap (λ b. cond b 1 0) (iff_same (covers c d) (leb (month_of c.first) (month_of d) && ltb (month_of d) (month_of c.first + n))
    (λ e. let v = covers_true c d e in
    let low = month_rises c.first d v.0 in
    let up = month_rises d (last_day c) v.1 in
    let s = h.spans in
    and_from (leb (month_of c.first) (month_of d)) (ltb (month_of d) (month_of c.first + n)) (le-leb (month_of c.first) (month_of d) low) (lt-ltb (month_of d) (month_of c.first + n) (omega arith)))
    (λ e. let v = and_parts (leb (month_of c.first) (month_of d)) (ltb (month_of d) (month_of c.first + n)) e in
    let low = leb-true (month_of c.first) (month_of d) v.0 in
    let up = ltb-true (month_of d) (month_of c.first + n) v.1 in
    let s = h.spans in
    covers_from c d
    (elim (cases_lt d c.first) [ inl x ↦ absurd (let y = h.starts d x in omega arith) | inr x ↦ x ])
    (elim (cases_lt (last_day c) d) [ inl x ↦ absurd (let y = h.ends d x in omega arith) | inr x ↦ x ])))

pub month_long : (t : Table) (c : Listed) → Rule t c Month → MonthsLong c 1
month_long t c r = record {
  starts = r.1;
  spans = (let e = end_same c.first in ap (λ x. month_of x + 1) r.0 ∙ ap (λ x. x + 1) e);
  ends = λ d h. (let e = end_same c.first in let p = end_past c.first d (subst (λ x. x < d) r.0 h) in subst (λ x. month_of x < month_of d) (sym r.0) (subst (λ x. x < month_of d) (sym e) p));
}

-- ---- a tier of relations, in a table that keeps the rules
module _ (t : Table) (x : Tier) where
  -- what makes a tier sound
  pub record Sound : Type 0 where
    pub some : (n : ℕ) × (x.count ≡ suc n)
    pub positive : 0 < x.months
    pub first_long : (i : ℕ) → i < size t → alike (nth t i).maturity x.whole ≡ true → MonthsLong (nth t i) (x.months * x.count)
    pub part_long : (i : ℕ) → i < size t → alike (nth t i).maturity x.part ≡ true → MonthsLong (nth t i) x.months
    pub first_line : (y : Maturity) → alike y x.whole ≡ true → alike y SingleDay ≡ false
    pub part_line : (y : Maturity) → alike y x.part ≡ true → alike y SingleDay ≡ false
    pub differ : (y : Maturity) → alike y x.whole ≡ true → alike y x.part ≡ true → ⊥

  module _ (good : Sound) (u d : ℕ) where
    -- in instrument u on day d, of a contract with a line
    abbrev pub weights : ℕ → ℕ
    weights i = bit (has_line t (nth t i) && (eqb (nth t i).instrument u && covers (nth t i) d))

    -- counted where instrument v is the one asked for
    abbrev of : ℕ → ℕ → ℕ
    of v n = cond (eqb v u) n 0

    of_add : (v m n : ℕ) → of v (m + n) ≡ of v m + of v n
    of_add v m n = by (eqb v u)
      where
        by : (b : Bool) → cond b (m + n) 0 ≡ cond b m 0 + cond b n 0
        by true = refl
        by false = refl

    pub record Found (v m i : ℕ) : Type 0 where
      pub within : i < size t
      pub instr : (nth t i).instrument ≡ v
      pub maturity : alike (nth t i).maturity x.part ≡ true
      pub opened : is_open t (nth t i) ≡ true
      pub starts : month_of (nth t i).first ≡ m

    found : (v m : ℕ) → any_below (starts_in t v x.part m) (size t) ≡ true → Found v m (seek (starts_in t v x.part m) (size t))
    found v m e =
        let i = seek (starts_in t v x.part m) (size t) in
        let f = seek_found (starts_in t v x.part m) (size t) e in
        let a = and_parts ((eqb (nth t i).instrument v && alike (nth t i).maturity x.part) && is_open t (nth t i)) (eqb (month_of (nth t i).first) m) f.1 in
        let b = and_parts (eqb (nth t i).instrument v && alike (nth t i).maturity x.part) (is_open t (nth t i)) a.0 in
        let c = and_parts (eqb (nth t i).instrument v) (alike (nth t i).maturity x.part) b.0 in
        record { within = f.0; instr = eqb-true (nth t i).instrument v c.0; maturity = c.1; opened = b.1; starts = eqb-true (month_of (nth t i).first) m a.1 }

    weigh : (v i n : ℕ) → (nth t i).instrument ≡ v → is_day (nth t i) ≡ false → is_open t (nth t i) ≡ true → MonthsLong (nth t i) n → weights i ≡ of v (span (month_of (nth t i).first) n (month_of d))
    weigh v i n e day-no o long =
        ap (λ b. bit (b && (eqb (nth t i).instrument u && covers (nth t i) d))) (and_from (is_open t (nth t i)) (not (is_day (nth t i))) o (not_from_false (is_day (nth t i)) day-no))
        ∙ split (eqb (nth t i).instrument u) (covers (nth t i) d)
        ∙ ap (λ y. cond (eqb y u) (bit (covers (nth t i) d)) 0) e
        ∙ ap (of v) (long_covers (nth t i) n long d)
      where
        split : (b c : Bool) → bit (b && c) ≡ cond b (bit c) 0
        split true c = refl
        split false c = refl

    part_weight : (v m i : ℕ) → Found v m i → weights i ≡ of v (span m x.months (month_of d))
    part_weight v m i f = weigh v i x.months f.instr (good.part_line (nth t i).maturity f.maturity) f.opened (good.part_long i f.within f.maturity) ∙ ap (λ y. of v (span y x.months (month_of d))) f.starts

    abbrev there : ℕ → ℕ → ℕ → Bool
    there v m c = all_there t v x.part x.months m c

    abbrev row : ℕ → ℕ → ℕ → List ℕ
    row v m c = parts t v x.part x.months m c

    at_first : (v m c : ℕ) → there v m (suc c) ≡ true → Found v m (seek (starts_in t v x.part m) (size t)) × (there v (m + x.months) c ≡ true)
    at_first v m c e = let a = and_parts (any_below (starts_in t v x.part m) (size t)) (there v (m + x.months) c) e in (found v m a.0, a.1)

    parts_weight : (v m c : ℕ) → there v m c ≡ true → weight weights (row v m c) ≡ of v (span m (x.months * c) (month_of d))
    parts_weight v m zero e = sym (nothing (eqb v u)) ∙ ap (of v) (sym (span_none m (month_of d)) ∙ ap (λ y. span m y (month_of d)) (omega arith))
      where
        nothing : (b : Bool) → ◌≡◌ {A = ℕ} (cond b 0 0) 0
        nothing true = refl
        nothing false = refl
    parts_weight v m (suc c) e =
        let a = at_first v m c e in
        let f = part_weight v m _ a.0 in
        let r = parts_weight v (m + x.months) c a.1 in
        let s = span_add m x.months (x.months * c) (month_of d) in
        let n : x.months * suc c ≡ x.months + x.months * c = omega arith in
        let z = of_add v (span m x.months (month_of d)) (span (m + x.months) (x.months * c) (month_of d)) in
        omega (arith, ap (of v) (ap (λ y. span m y (month_of d)) n ∙ s))

    parts_within : (v m c : ℕ) → there v m c ≡ true → Below (size t) (row v m c)
    parts_within v m zero e = tt
    parts_within v m (suc c) e = let a = at_first v m c e in (a.0.within, parts_within v (m + x.months) c a.1)

    -- a part starts no earlier than the first, and is one of the parts' maturity
    parts_in : (v m c i : ℕ) → there v m c ≡ true → is_in i (row v m c) ≡ true → (m ≤ month_of (nth t i).first) × (alike (nth t i).maturity x.part ≡ true)
    parts_in v m zero i e h = absurd (false≢true h)
    parts_in v m (suc c) i e h =
        let a = at_first v m c e in
        let f = a.0 in
        elim (or_cases (eqb i (seek (starts_in t v x.part m) (size t))) (is_in i (row v (m + x.months) c)) h) [
          | inl z ↦ (let y = eqb-true i (seek (starts_in t v x.part m) (size t)) z in (let w : month_of (nth t i).first ≡ m = ap (λ j. month_of (nth t j).first) y ∙ f.starts in omega arith, ap (λ j. alike (nth t j).maturity x.part) y ∙ f.maturity))
          | inr z ↦ (let r = parts_in v (m + x.months) c i a.1 z in (omega (arith, r.0), r.1))
        ]

    not_in : (i : ℕ) (os : List ℕ) → (is_in i os ≡ true → ⊥) → is_in i os ≡ false
    not_in i os h = elim (cases_Bool (is_in i os)) [ inl e ↦ absurd (h e) | inr e ↦ e ]

    parts_apart : (v m c : ℕ) → there v m c ≡ true → Distinct (row v m c)
    parts_apart v m zero e = tt
    parts_apart v m (suc c) e =
        let a = at_first v m c e in
        let f = a.0 in
        let p = good.positive in
        (not_in _ (row v (m + x.months) c) (λ h. let r = parts_in v (m + x.months) c _ a.1 h in omega (arith, r.0, f.starts)), parts_apart v (m + x.months) c a.1)

    pub relation_whole : (i : ℕ) → i < size t → is_listed t x i ≡ true → Whole (size t) weights (relation_of t x i)
    relation_whole i h e =
        let v = (nth t i).instrument in
        let m = month_of (nth t i).first in
        let a = and_parts (whole_of t x (nth t i)) (there v m x.count) e in
        let g = (and_parts (not (option_in t v)) (alike (nth t i).maturity x.whole && is_open t (nth t i)) a.0).1 in
        let b = and_parts (alike (nth t i).maturity x.whole) (is_open t (nth t i)) g in
        record {
          within = (h, parts_within v m x.count a.1);
          apart = (not_in i (row v m x.count) (λ z. good.differ (nth t i).maturity b.0 (parts_in v m x.count i a.1 z).1), parts_apart v m x.count a.1);
          union = weigh v i (x.months * x.count) refl (good.first_line (nth t i).maturity b.0) b.1 (good.first_long i h b.0) ∙ sym (parts_weight v m x.count a.1);
        }

    pub over_whole : (is : List ℕ) → All (λ i. i < size t) is → AllWhole (size t) weights (relations_over t x is)
    over_whole [] h = tt
    over_whole (i ∷ is) h = by (cases_Bool (is_listed t x i)) (over_whole is h.1)
      where
        by : (is_listed t x i ≡ true) ⊎ (is_listed t x i ≡ false) → AllWhole (size t) weights (relations_over t x is) → AllWhole (size t) weights (relations_over t x (i ∷ is))
        by (inl e) r = subst (AllWhole (size t) weights) (sym (cond-true (is_listed t x i) (relation_of t x i ∷ relations_over t x is) (relations_over t x is) e)) (relation_whole i h.0 e, r)
        by (inr e) r = subst (AllWhole (size t) weights) (sym (cond-false (is_listed t x i) (relation_of t x i ∷ relations_over t x is) (relations_over t x is) e)) r

  pub over_proper : Sound → (is : List ℕ) → Proper (relations_over t x is)
  over_proper good [] = tt
  over_proper good (i ∷ is) = by (cases_Bool (is_listed t x i)) (over_proper good is)
    where
      is_some_part : (c n m : ℕ) → c ≡ suc n → (parts t (nth t i).instrument x.part x.months m c ≡ []) → ⊥
      is_some_part zero n m e h = omega arith
      is_some_part (suc c) n m e h = (let z : ◌≡◌ {A = ℕ} 0 1 = cc in omega arith)

      by : (is_listed t x i ≡ true) ⊎ (is_listed t x i ≡ false) → Proper (relations_over t x is) → Proper (relations_over t x (i ∷ is))
      by (inl e) r = subst Proper (sym (cond-true (is_listed t x i) (relation_of t x i ∷ relations_over t x is) (relations_over t x is) e)) (is_some_part x.count good.some.0 (month_of (nth t i).first) good.some.1, r)
      by (inr e) r = subst Proper (sym (cond-false (is_listed t x i) (relation_of t x i ∷ relations_over t x is) (relations_over t x is) e)) r
