-- Which line takes a day: one at most, one at least where a running contract delivers, and all of a line's days or none.
use Rattle.std.proofs.Common.{◌≡◌, ℕ, ◌+◌, ◌<◌, ◌≤◌, Bool, true, false, not, ◌&&◌, ◌||◌, eqb, ltb, leb, ◌⊎◌, sym, refl, ap, ◌∙◌, subst, inl, inr, arith}
use Rattle.std.proofs.lemmas.Bool.{cases_Bool, and_parts, and_from, or_cases, or_left, or_right, or_from, or_parts, eq-eqb, eqb-true, both_ways, cases_lt, false≢true, leb-true, le-leb, ltb-true, lt-ltb, not-true, not_from_false}
use Rattle.days.specs.Months.{month_of, month_end}
use Rattle.days.specs.Days.{weekday_at}
use Rattle.days.proofs.Tiling.{month_rises}
use Rattle.calendar.specs.Periods.{alike}
use Rattle.calendar.specs.declared.maturity.Maturity.{Maturity}
use Rattle.calendar.specs.declared.maturity.Maturity.TheVariants.{SingleDay, Weekend, Workdays, Week, RestOfMonth, Month, Quarter, Season, Year}
use Rattle.contracts.specs.Table.{Listed, Table, numbers, nth, size, last_day, is_open, covers}
use Rattle.contracts.specs.Lines.{Line, day, rest, own, is_day, is_week, is_part, has_line, instr_of, within, week_has, part_has, some_week, some_part, takes, delivers}
use Rattle.contracts.proofs.Searches.{any_true, any_from}
use Rattle.positions.specs.Net.{is_in}
use Rattle.positions.proofs.Calendar.{end_same, end_past, alike_same}
use Rattle.positions.proofs.Good.{ShortRule, Near, Rule, Good}

-- ---- tests as facts
pub iff_same : (a b : Bool) → (a ≡ true → b ≡ true) → (b ≡ true → a ≡ true) → a ≡ b
iff_same true b f g = sym (f refl)
iff_same false true f g = absurd (false≢true (g refl))
iff_same false false f g = refl

pub covers_true : (c : Listed) (d : ℕ) → covers c d ≡ true → (c.first ≤ d) × (d ≤ last_day c)
covers_true c d e = let h = and_parts (leb c.first d) (leb d (last_day c)) e in (leb-true c.first d h.0, leb-true d (last_day c) h.1)

pub covers_from : (c : Listed) (d : ℕ) → c.first ≤ d → d ≤ last_day c → covers c d ≡ true
covers_from c d a b = and_from (leb c.first d) (leb d (last_day c)) (le-leb c.first d a) (le-leb d (last_day c) b)

part_is : (x : Maturity) → (alike x Workdays || alike x Weekend) ≡ true → (x ≡ Weekend) ⊎ (x ≡ Workdays)
part_is x e = elim (or_cases (alike x Workdays) (alike x Weekend) e) [ inl a ↦ inr (alike_same x Workdays a) | inr a ↦ inl (alike_same x Weekend a) ]

-- a contract's own line takes the day, in instrument u
abbrev own_takes_in : Table → ℕ → ℕ → ℕ → Bool
own_takes_in t u i d = ltb t.horizon d && (week_has t u d i || (part_has t u d i && not (some_week t u d)))

-- ---- a table that keeps the rules
module _ (t : Table) where
  pub record In (c : Listed) (d : ℕ) : Type 0 where
    pub open_still : is_open t c ≡ true
    pub low : c.first ≤ d
    pub high : d ≤ last_day c
    pub first_month : month_of c.first ≡ month_of d
    pub last_month : month_of (last_day c) ≡ month_of d

  pub in_true : (c : Listed) (d : ℕ) → within t c d ≡ true → In c d
  in_true c d e =
      let h = and_parts (is_open t c && covers c d) (eqb (month_of c.first) (month_of d) && eqb (month_of (last_day c)) (month_of d)) e in
      let a = and_parts (is_open t c) (covers c d) h.0 in
      let b = and_parts (eqb (month_of c.first) (month_of d)) (eqb (month_of (last_day c)) (month_of d)) h.1 in
      let v = covers_true c d a.1 in
      record { open_still = a.0; low = v.0; high = v.1; first_month = eqb-true (month_of c.first) (month_of d) b.0; last_month = eqb-true (month_of (last_day c)) (month_of d) b.1 }

  pub in_from : (c : Listed) (d : ℕ) → In c d → within t c d ≡ true
  in_from c d h =
      and_from (is_open t c && covers c d) (eqb (month_of c.first) (month_of d) && eqb (month_of (last_day c)) (month_of d))
      (and_from (is_open t c) (covers c d) h.open_still (covers_from c d h.low h.high))
      (and_from (eqb (month_of c.first) (month_of d)) (eqb (month_of (last_day c)) (month_of d)) (eq-eqb (month_of c.first) (month_of d) h.first_month) (eq-eqb (month_of (last_day c)) (month_of d) h.last_month))

  -- another day of the same contract
  pub in_other : (c : Listed) (e d : ℕ) → In c e → c.first ≤ d → d ≤ last_day c → In c d
  in_other c e d h a b =
      let low-m = month_rises c.first d a in
      let high-m = month_rises d (last_day c) b in
      let same : month_of d ≡ month_of e = omega (arith, h.first_month, h.last_month) in
      record { open_still = h.open_still; low = a; high = b; first_month = h.first_month ∙ sym same; last_month = h.last_month ∙ sym same }

  pub in_month : (c : Listed) (e d : ℕ) → In c e → In c d → month_of d ≡ month_of e
  in_month c e d h g = sym g.first_month ∙ h.first_month

module _ (t : Table) (good : Good t) where
  -- ---- a week of instrument u that holds a day, and a part of a week
  pub record WeekAt (u i d : ℕ) : Type 0 where
    pub below : i < size t
    pub instr : (nth t i).instrument ≡ u
    pub maturity : (nth t i).maturity ≡ Week
    pub has : In t (nth t i) d

  pub record PartAt (u i d : ℕ) : Type 0 where
    pub below : i < size t
    pub instr : (nth t i).instrument ≡ u
    pub maturity : ((nth t i).maturity ≡ Weekend) ⊎ ((nth t i).maturity ≡ Workdays)
    pub has : In t (nth t i) d

  pub week_true : (u i d : ℕ) → i < size t → week_has t u d i ≡ true → WeekAt u i d
  week_true u i d h e =
      let a = and_parts (eqb (nth t i).instrument u && is_week (nth t i)) (within t (nth t i) d) e in
      let b = and_parts (eqb (nth t i).instrument u) (is_week (nth t i)) a.0 in
      record { below = h; instr = eqb-true (nth t i).instrument u b.0; maturity = alike_same (nth t i).maturity Week b.1; has = in_true t (nth t i) d a.1 }

  week_from : (u i d : ℕ) → WeekAt u i d → week_has t u d i ≡ true
  week_from u i d w =
      and_from (eqb (nth t i).instrument u && is_week (nth t i)) (within t (nth t i) d)
      (and_from (eqb (nth t i).instrument u) (is_week (nth t i)) (eq-eqb (nth t i).instrument u w.instr) (ap (λ x. alike x Week) w.maturity))
      (in_from t (nth t i) d w.has)

  pub part_true : (u i d : ℕ) → i < size t → part_has t u d i ≡ true → PartAt u i d
  part_true u i d h e =
      let a = and_parts (eqb (nth t i).instrument u && is_part (nth t i)) (within t (nth t i) d) e in
      let b = and_parts (eqb (nth t i).instrument u) (is_part (nth t i)) a.0 in
      record { below = h; instr = eqb-true (nth t i).instrument u b.0; maturity = part_is (nth t i).maturity b.1; has = in_true t (nth t i) d a.1 }

  part_from : (u i d : ℕ) → PartAt u i d → part_has t u d i ≡ true
  part_from u i d w =
      and_from (eqb (nth t i).instrument u && is_part (nth t i)) (within t (nth t i) d)
      (and_from (eqb (nth t i).instrument u) (is_part (nth t i)) (eq-eqb (nth t i).instrument u w.instr) (elim w.maturity [ inl x ↦ ap (λ y. alike y Workdays || alike y Weekend) x | inr x ↦ ap (λ y. alike y Workdays || alike y Weekend) x ]))
      (in_from t (nth t i) d w.has)

  rule : (i : ℕ) (x : Maturity) → i < size t → (nth t i).maturity ≡ x → Rule t (nth t i) x
  rule i x h e = subst (Rule t (nth t i)) e (good.dated i h)

  short_open : (c : Listed) → ShortRule t c → is_open t c ≡ true → t.horizon < c.first
  short_open c (inl h) e = absurd (both_ways (is_open t c) h.0 e)
  short_open c (inr h) e = h.1

  week_starts : (u i d : ℕ) → WeekAt u i d → t.horizon < (nth t i).first
  week_starts u i d w = short_open (nth t i) (rule i Week w.below w.maturity).2 w.has.open_still

  part_starts : (u i d : ℕ) → PartAt u i d → t.horizon < (nth t i).first
  part_starts u i d w = elim w.maturity [
    | inl x ↦ short_open (nth t i) (rule i Weekend w.below x).2 w.has.open_still
    | inr x ↦ short_open (nth t i) (rule i Workdays w.below x).2 w.has.open_still
  ]

  week_some : (u i d : ℕ) → WeekAt u i d → some_week t u d ≡ true
  week_some u i d w = any_from (week_has t u d) (size t) i w.below (week_from u i d w)

  part_some : (u i d : ℕ) → PartAt u i d → some_part t u d ≡ true
  part_some u i d w = any_from (part_has t u d) (size t) i w.below (part_from u i d w)

  is_some_week : (u d : ℕ) → some_week t u d ≡ true → (i : ℕ) × WeekAt u i d
  is_some_week u d e = let j = any_true (week_has t u d) (size t) e in (j.0, week_true u j.0 d j.1 j.2)

  is_some_part : (u d : ℕ) → some_part t u d ≡ true → (i : ℕ) × PartAt u i d
  is_some_part u d e = let j = any_true (part_has t u d) (size t) e in (j.0, part_true u j.0 d j.1 j.2)

  -- ---- what each line takes, as facts
  pub own_true : (u i d : ℕ) → i < size t → own_takes_in t u i d ≡ true → (t.horizon < d) × (WeekAt u i d ⊎ (PartAt u i d × (some_week t u d ≡ false)))
  own_true u i d h e =
      let a = and_parts (ltb t.horizon d) (week_has t u d i || (part_has t u d i && not (some_week t u d))) e in (
        ltb-true t.horizon d a.0,
        elim (or_cases (week_has t u d i) (part_has t u d i && not (some_week t u d)) a.1) [
          | inl x ↦ inl (week_true u i d h x)
          | inr x ↦ inr (let b = and_parts (part_has t u d i) (not (some_week t u d)) x in (part_true u i d h b.0, not-true (some_week t u d) b.1))
        ],
      )

  own_week : (u i d : ℕ) → t.horizon < d → WeekAt u i d → own_takes_in t u i d ≡ true
  own_week u i d h w = and_from (ltb t.horizon d) (week_has t u d i || (part_has t u d i && not (some_week t u d))) (lt-ltb t.horizon d h) (or_left (week_has t u d i) (part_has t u d i && not (some_week t u d)) (week_from u i d w))

  own_part : (u i d : ℕ) → t.horizon < d → PartAt u i d → some_week t u d ≡ false → own_takes_in t u i d ≡ true
  own_part u i d h w f = and_from (ltb t.horizon d) (week_has t u d i || (part_has t u d i && not (some_week t u d))) (lt-ltb t.horizon d h) (or_right (week_has t u d i) (part_has t u d i && not (some_week t u d)) (and_from (part_has t u d i) (not (some_week t u d)) (part_from u i d w) (not_from_false (some_week t u d) f)))

  pub rest_true : (u m d : ℕ) → takes t (rest u m) d ≡ true → (t.horizon < d) × (month_of d ≡ m) × (some_week t u d ≡ false) × (some_part t u d ≡ false)
  rest_true u m d e =
      let a = and_parts (ltb t.horizon d) (eqb (month_of d) m && not (some_week t u d || some_part t u d)) e in
      let b = and_parts (eqb (month_of d) m) (not (some_week t u d || some_part t u d)) a.1 in
      let o = or_parts (some_week t u d) (some_part t u d) (not-true (some_week t u d || some_part t u d) b.1) in
      (ltb-true t.horizon d a.0, eqb-true (month_of d) m b.0, o.0, o.1)

  rest_from : (u d : ℕ) → t.horizon < d → some_week t u d ≡ false → some_part t u d ≡ false → takes t (rest u (month_of d)) d ≡ true
  rest_from u d h a b =
      and_from (ltb t.horizon d) (eqb (month_of d) (month_of d) && not (some_week t u d || some_part t u d)) (lt-ltb t.horizon d h)
      (and_from (eqb (month_of d) (month_of d)) (not (some_week t u d || some_part t u d)) (eq-eqb (month_of d) (month_of d) refl) (not_from_false (some_week t u d || some_part t u d) (or_from (some_week t u d) (some_part t u d) a b)))

  pub day_true : (u x d : ℕ) → takes t (day u x) d ≡ true → (x ≡ d) × (d ≤ t.horizon)
  day_true u x d e = let a = and_parts (eqb x d) (leb d t.horizon) e in (eqb-true x d a.0, leb-true d t.horizon a.1)

  day_from : (u d : ℕ) → d ≤ t.horizon → takes t (day u d) d ≡ true
  day_from u d h = and_from (eqb d d) (leb d t.horizon) (eq-eqb d d refl) (le-leb d t.horizon h)

  abbrev pub OfTable : Line → Type 0
  OfTable (day u e) = (is_in u (numbers t) ≡ true) × (t.date < e) × (e ≤ t.horizon)
  OfTable (rest u m) = (is_in u (numbers t) ≡ true) × ((m ≡ month_of t.date) ⊎ (m ≡ month_of t.date + 1))
  OfTable (own i) = (i < size t) × (has_line t (nth t i) ≡ true)

  -- what the own line takes, it has
  own_has : (u i d : ℕ) → i < size t → own_takes_in t u i d ≡ true → In t (nth t i) d
  own_has u i d h e = elim (own_true u i d h e).1 [ inl w ↦ w.has | inr w ↦ w.0.has ]

  -- ---- a line delivers on the days that it takes
  pub takes_delivers : (l : Line) (d : ℕ) → OfTable l → takes t l d ≡ true → delivers t l d ≡ true
  takes_delivers (day u x) d h e = (and_parts (eqb x d) (leb d t.horizon) e).0
  takes_delivers (rest u m) d h e = e
  takes_delivers (own i) d h e = let g = own_has (nth t i).instrument i d h.0 e in covers_from (nth t i) d g.low g.high

  -- ---- a line that takes one of its days takes them all
  -- a week with a day of a part of a week has all of that part
  week_over_part : (u v i j e d : ℕ) → PartAt u i e → In t (nth t i) d → WeekAt v j d → In t (nth t j) e
  week_over_part u v i j e d p cd w =
      let r = rule j Week w.below w.maturity in
      let ce = p.has in
      let vd = w.has in
      let bounds : ((nth t j).first ≤ e) × (e ≤ last_day (nth t j)) = elim p.maturity [
        | inl x ↦ (let q = rule i Weekend p.below x in near_e (nth t i).first (nth t j).first (last_day (nth t i)) (last_day (nth t j)) q.0 q.1 r.0 r.1 ce.low ce.high cd.low cd.high vd.low vd.high)
        | inr x ↦ (let q = rule i Workdays p.below x in near_b (nth t i).first (nth t j).first (last_day (nth t i)) (last_day (nth t j)) q.0 q.1 r.0 r.1 ce.low ce.high cd.low cd.high vd.low vd.high)
      ] in
      in_other t (nth t j) d e vd bounds.0 bounds.1
    where
      near_e : (cf vf cl vl : ℕ) → weekday_at cf ≡ 5 → cl ≡ cf + 1 → weekday_at vf ≡ 0 → vl ≡ vf + 6 → cf ≤ e → e ≤ cl → cf ≤ d → d ≤ cl → vf ≤ d → d ≤ vl → (vf ≤ e) × (e ≤ vl)
      near_e cf vf cl vl a b x y p q r s m n = omega arith

      near_b : (cf vf cl vl : ℕ) → weekday_at cf ≡ 0 → cl ≡ cf + 4 → weekday_at vf ≡ 0 → vl ≡ vf + 6 → cf ≤ e → e ≤ cl → cf ≤ d → d ≤ cl → vf ≤ d → d ≤ vl → (vf ≤ e) × (e ≤ vl)
      near_b cf vf cl vl a b x y p q r s m n = omega arith

  pub uniform : (l : Line) (e d : ℕ) → OfTable l → takes t l e ≡ true → delivers t l d ≡ true → takes t l d ≡ true
  uniform (day u x) e d h a b = let g = day_true u x e a in let f = eqb-true x d b in and_from (eqb x d) (leb d t.horizon) b (le-leb d t.horizon (omega arith))
  uniform (rest u m) e d h a b = b
  uniform (own i) e d h a b =
      let u = (nth t i).instrument in
      let v = covers_true (nth t i) d b in
      let here : In t (nth t i) d = in_other t (nth t i) e d (own_has u i e h.0 a) v.0 v.1 in
      elim (own_true u i e h.0 a).1 [
        | inl w ↦ own_week u i d (let z = week_starts u i e w in omega (arith, v.0)) (record { below = w.below; instr = w.instr; maturity = w.maturity; has = here })
        | inr w ↦ (
            let p = w.0 in
            let no-week : some_week t u d ≡ false = elim (cases_Bool (some_week t u d)) [
              | inr f ↦ f
              | inl s ↦ (
                  let j = is_some_week u d s in
                  let g = j.1 in
                  let back : In t (nth t j.0) e = week_over_part u u i j.0 e d p here g in
                  absurd (both_ways (some_week t u e) w.1 (week_some u j.0 e (record { below = g.below; instr = g.instr; maturity = g.maturity; has = back }))))
            ] in
            own_part u i d (let z = part_starts u i e p in omega (arith, v.0)) (record { below = p.below; instr = p.instr; maturity = p.maturity; has = here }) no-week)
      ]

  -- ---- one line at most takes a day
  one_week : (u i j d : ℕ) → WeekAt u i d → WeekAt u j d → i ≡ j
  one_week u i j d a b =
      let p = rule i Week a.below a.maturity in
      let q = rule j Week b.below b.maturity in
      good.apart i j a.below b.below (a.instr ∙ sym b.instr) (a.maturity ∙ sym b.maturity) (same (nth t i).first (nth t j).first (last_day (nth t i)) (last_day (nth t j)) p.0 p.1 q.0 q.1 a.has.low a.has.high b.has.low b.has.high)
    where
      same : (f g x y : ℕ) → weekday_at f ≡ 0 → x ≡ f + 6 → weekday_at g ≡ 0 → y ≡ g + 6 → f ≤ d → d ≤ x → g ≤ d → d ≤ y → f ≡ g
      same f g x y a b p q r s m n = omega arith

  one_part : (u i j d : ℕ) → PartAt u i d → PartAt u j d → i ≡ j
  one_part u i j d a b =
      let ai = a.has in
      let bj = b.has in
      let f = (nth t i).first in
      let g = (nth t j).first in
      let m = last_day (nth t i) in
      let n = last_day (nth t j) in
      let apart : (nth t i).maturity ≡ (nth t j).maturity → f ≡ g → i ≡ j = good.apart i j a.below b.below (a.instr ∙ sym b.instr) in
      elim a.maturity [
        | inl x ↦ elim b.maturity [
          | inl y ↦ (let p = rule i Weekend a.below x in let q = rule j Weekend b.below y in apart (x ∙ sym y) (ee f g m n p.0 p.1 q.0 q.1 ai.low ai.high bj.low bj.high))
          | inr y ↦ (let p = rule i Weekend a.below x in let q = rule j Workdays b.below y in absurd (eb f g m n p.0 p.1 q.0 q.1 ai.low ai.high bj.low bj.high))
        ]
        | inr x ↦ elim b.maturity [
          | inl y ↦ (let p = rule i Workdays a.below x in let q = rule j Weekend b.below y in absurd (eb g f n m q.0 q.1 p.0 p.1 bj.low bj.high ai.low ai.high))
          | inr y ↦ (let p = rule i Workdays a.below x in let q = rule j Workdays b.below y in apart (x ∙ sym y) (bb f g m n p.0 p.1 q.0 q.1 ai.low ai.high bj.low bj.high))
        ]
      ]
    where
      ee : (f g x y : ℕ) → weekday_at f ≡ 5 → x ≡ f + 1 → weekday_at g ≡ 5 → y ≡ g + 1 → f ≤ d → d ≤ x → g ≤ d → d ≤ y → f ≡ g
      ee f g x y a b p q r s m n = omega arith

      bb : (f g x y : ℕ) → weekday_at f ≡ 0 → x ≡ f + 4 → weekday_at g ≡ 0 → y ≡ g + 4 → f ≤ d → d ≤ x → g ≤ d → d ≤ y → f ≡ g
      bb f g x y a b p q r s m n = omega arith

      eb : (f g x y : ℕ) → weekday_at f ≡ 5 → x ≡ f + 1 → weekday_at g ≡ 0 → y ≡ g + 4 → f ≤ d → d ≤ x → g ≤ d → d ≤ y → ⊥
      eb f g x y a b p q r s m n = omega arith

  no_own : (u i d : ℕ) → i < size t → own_takes_in t u i d ≡ true → some_week t u d ≡ false → some_part t u d ≡ false → ⊥
  no_own u i d h e a b = elim (own_true u i d h e).1 [
    | inl w ↦ both_ways (some_week t u d) a (week_some u i d w)
    | inr w ↦ both_ways (some_part t u d) b (part_some u i d w.0)
  ]

  one_own : (u i j d : ℕ) → i < size t → j < size t → own_takes_in t u i d ≡ true → own_takes_in t u j d ≡ true → i ≡ j
  one_own u i j d hi hj a b = elim (own_true u i d hi a).1 [
    | inl x ↦ elim (own_true u j d hj b).1 [
      | inl y ↦ one_week u i j d x y
      | inr y ↦ absurd (both_ways (some_week t u d) y.1 (week_some u i d x))
    ]
    | inr x ↦ elim (own_true u j d hj b).1 [
      | inl y ↦ absurd (both_ways (some_week t u d) x.1 (week_some u j d y))
      | inr y ↦ one_part u i j d x.0 y.0
    ]
  ]

  -- at another name of the same instrument
  own_as : (u v i d : ℕ) → u ≡ v → own_takes_in t u i d ≡ true → own_takes_in t v i d ≡ true
  own_as u v i d e h = subst (λ w. own_takes_in t w i d ≡ true) e h

  pub one_taker : (l m : Line) (d : ℕ) → OfTable l → OfTable m → instr_of t l ≡ instr_of t m → takes t l d ≡ true → takes t m d ≡ true → l ≡ m
  one_taker (day u x) (day v y) d hl hm s a b = ap (λ z. day z x) s ∙ ap (day v) ((day_true u x d a).0 ∙ sym (day_true v y d b).0)
  one_taker (day u x) (rest v m) d hl hm s a b = absurd (let p = (day_true u x d a).1 in let q = (rest_true v m d b).0 in omega arith)
  one_taker (day u x) (own j) d hl hm s a b = absurd (let p = (day_true u x d a).1 in let q = (own_true (nth t j).instrument j d hm.0 b).0 in omega arith)
  one_taker (rest u m) (day v y) d hl hm s a b = absurd (let p = (day_true v y d b).1 in let q = (rest_true u m d a).0 in omega arith)
  one_taker (rest u m) (rest v n) d hl hm s a b = ap (λ z. rest z m) s ∙ ap (rest v) (sym (rest_true u m d a).1 ∙ (rest_true v n d b).1)
  one_taker (rest u m) (own j) d hl hm s a b = absurd (let r = rest_true u m d a in no_own u j d hm.0 (own_as (nth t j).instrument u j d (sym s) b) r.2 r.3)
  one_taker (own i) (day v y) d hl hm s a b = absurd (let p = (day_true v y d b).1 in let q = (own_true (nth t i).instrument i d hl.0 a).0 in omega arith)
  one_taker (own i) (rest v m) d hl hm s a b = absurd (let r = rest_true v m d b in no_own v i d hl.0 (own_as (nth t i).instrument v i d s a) r.2 r.3)
  one_taker (own i) (own j) d hl hm s a b = ap own (one_own (nth t j).instrument i j d hl.0 hm.0 (own_as (nth t i).instrument (nth t j).instrument i d s a) b)

  -- ---- and one at least, by the horizon and in the two months
  day_has_line : (i d : ℕ) → In t (nth t i) d → is_day (nth t i) ≡ false → has_line t (nth t i) ≡ true
  day_has_line i d h e = and_from (is_open t (nth t i)) (not (is_day (nth t i))) h.open_still (not_from_false (is_day (nth t i)) e)

  pub taker : (u d : ℕ) → is_in u (numbers t) ≡ true → t.date < d → (d ≤ t.horizon) ⊎ ((t.horizon < d) × ((month_of d ≡ month_of t.date) ⊎ (month_of d ≡ month_of t.date + 1))) → (l : Line) × OfTable l × (instr_of t l ≡ u) × (takes t l d ≡ true)
  taker u d g a (inl h) = (day u d, (g, a, h), refl, day_from u d h)
  taker u d g a (inr h) = elim (cases_Bool (some_week t u d)) [
    | inl s ↦ (
        let j = is_some_week u d s in
        let w = j.1 in
        (own j.0, (w.below, day_has_line j.0 d w.has (ap (λ y. alike y SingleDay) w.maturity)), w.instr, own_as u (nth t j.0).instrument j.0 d (sym w.instr) (own_week u j.0 d h.0 w)))
    | inr s ↦ elim (cases_Bool (some_part t u d)) [
      | inl p ↦ (
          let j = is_some_part u d p in
          let w = j.1 in
          (own j.0, (w.below, day_has_line j.0 d w.has (elim w.maturity [ inl x ↦ ap (λ y. alike y SingleDay) x | inr x ↦ ap (λ y. alike y SingleDay) x ])), w.instr, own_as u (nth t j.0).instrument j.0 d (sym w.instr) (own_part u j.0 d h.0 w s)))
      | inr p ↦ (rest u (month_of d), (g, h.1), refl, rest_from u d h.0 s p)
    ]
  ]

  -- ---- a running contract that goes past the horizon
  pub record Long (c : Listed) : Type 0 where
    pub near : Near t c
    pub ends : last_day c ≡ month_end c.first
    pub starts : (e d : ℕ) → c.first ≤ e → month_of d ≡ month_of e → t.horizon < d → c.first ≤ d

  long_by : (c : Listed) (e : ℕ) (x : Maturity) → Rule t c x → alike x SingleDay ≡ false → is_open t c ≡ false → t.horizon < e → e ≤ last_day c → Long c
  long_by c e SingleDay r n o h b = absurd (false≢true (sym n))
  long_by c e Weekend (a, x, inl s) n o h b = absurd (let y = s.1 in omega arith)
  long_by c e Weekend (a, x, inr s) n o h b = absurd (both_ways (is_open t c) o s.0)
  long_by c e Workdays (a, x, inl s) n o h b = absurd (let y = s.1 in omega arith)
  long_by c e Workdays (a, x, inr s) n o h b = absurd (both_ways (is_open t c) o s.0)
  long_by c e Week (a, x, inl s) n o h b = absurd (let y = s.1 in omega arith)
  long_by c e Week (a, x, inr s) n o h b = absurd (both_ways (is_open t c) o s.0)
  long_by c e RestOfMonth r n o h b = record { near = (r.1 o).0; ends = r.0; starts = λ e d p m q. (let z = (r.1 o).1 in omega arith) }
  long_by c e Month r n o h b = record { near = r.2 o; ends = r.0; starts = λ e d p m q. elim (cases_lt d c.first) [ inr z ↦ z | inl z ↦ absurd (let u = r.1 d z in let v = month_rises c.first e p in omega arith) ] }
  long_by c e Quarter r n o h b = absurd (both_ways (is_open t c) o r.0)
  long_by c e Season r n o h b = absurd (both_ways (is_open t c) o r.0)
  long_by c e Year r n o h b = absurd (both_ways (is_open t c) o r.0)

  pub long : (i e : ℕ) → i < size t → is_day (nth t i) ≡ false → is_open t (nth t i) ≡ false → t.horizon < e → e ≤ last_day (nth t i) → Long (nth t i)
  long i e h n o a b = long_by (nth t i) e (nth t i).maturity (good.dated i h) n o a b

  -- its days lie in its month
  long_month : (c : Listed) (d : ℕ) → Long c → c.first ≤ d → d ≤ last_day c → month_of d ≡ month_of c.first
  long_month c d g a b =
      let low = month_rises c.first d a in
      let up = month_rises d (month_end c.first) (omega (arith, g.ends)) in
      let same = end_same c.first in
      omega arith

  pub near_days : (i d : ℕ) → i < size t → is_day (nth t i) ≡ false → is_open t (nth t i) ≡ false → t.horizon < d → covers (nth t i) d ≡ true → (month_of d ≡ month_of t.date) ⊎ (month_of d ≡ month_of t.date + 1)
  near_days i d h n o a e =
      let v = covers_true (nth t i) d e in
      let g = long i d h n o a v.1 in
      let m = long_month (nth t i) d g v.0 v.1 in
      elim g.near [ inl z ↦ inl (m ∙ z) | inr z ↦ inr (m ∙ z) ]

  -- ---- what takes a day past the horizon has all its days there, in one month
  same_month : (l : Line) (e d : ℕ) → OfTable l → takes t l e ≡ true → takes t l d ≡ true → t.horizon < e → (t.horizon < d) × (month_of d ≡ month_of e)
  same_month (day u x) e d h a b p = absurd (let q = (day_true u x e a).1 in omega arith)
  same_month (rest u m) e d h a b p = ((rest_true u m d b).0, (rest_true u m d b).1 ∙ sym (rest_true u m e a).1)
  same_month (own i) e d h a b p =
      let u = (nth t i).instrument in
      ((own_true u i d h.0 b).0, in_month t (nth t i) e d (own_has u i e h.0 a) (own_has u i d h.0 b))

  -- a line that takes a day of a running contract takes only days of it
  pub inside : (i : ℕ) (l : Line) (e d : ℕ) → i < size t → OfTable l → is_day (nth t i) ≡ false → is_open t (nth t i) ≡ false → covers (nth t i) e ≡ true → takes t l e ≡ true → takes t l d ≡ true → covers (nth t i) d ≡ true
  inside i l e d h hl n o v a b = elim (cases_lt t.horizon e) [
    | inr p ↦ by_horizon l hl a b p
    | inl p ↦ (
        let c = nth t i in
        let w = covers_true c e v in
        let g = long i e h n o p w.1 in
        let s = same_month l e d hl a b p in
        let low = g.starts e d w.0 s.1 s.0 in
        let m = long_month c e g w.0 w.1 in
        covers_from c d low (elim (cases_lt (month_end c.first) d) [
          | inl z ↦ absurd (let u = end_past c.first d z in omega (arith, s.1))
          | inr z ↦ subst (λ x. d ≤ x) (sym g.ends) z
        ]))
  ]
    where
      by_horizon : (l : Line) → OfTable l → takes t l e ≡ true → takes t l d ≡ true → e ≤ t.horizon → covers (nth t i) d ≡ true
      by_horizon (day u x) hl a b p = subst (λ y. covers (nth t i) y ≡ true) (sym (day_true u x e a).0 ∙ (day_true u x d b).0) v
      by_horizon (rest u m) hl a b p = absurd (let q = (rest_true u m e a).0 in omega arith)
      by_horizon (own j) hl a b p = absurd (let q = (own_true (nth t j).instrument j e hl.0 a).0 in omega arith)
