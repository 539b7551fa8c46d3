-- From contracts to netted lines, every hour is kept.
use Rattle.std.proofs.Common.{◌≡◌, ℕ, zero, suc, ◌+◌, ◌-◌, ◌*◌, ◌<◌, ◌≤◌, Bool, true, false, cond, ◌&&◌, eqb, ◌⊎◌, List, [], ◌∷◌, ◌++◌, map, length, get_or, ℤ, pos, ◌+ℤ◌, ◌*ℤ◌, sym, refl, ap, ◌∙◌, subst, inl, inr, arith, lit≤}
use lib.IntN.{zero-*ℤ}
use borrow.Author.Differences.{ints}
use Rattle.std.specs.List.{range_with_len, AllByRecursion as All}
use Rattle.std.proofs.lemmas.Bool.{cases_Bool, eqb-true, cond-false, false≢true}
use Rattle.days.specs.Months.{month_of}
use Rattle.calendar.specs.Hours.{delivered_in}
use Rattle.calendar.specs.Periods.{alike}
use Rattle.calendar.specs.declared.maturity.Maturity.{Maturity}
use Rattle.calendar.specs.declared.maturity.Maturity.TheVariants.{SingleDay}
use Rattle.contracts.specs.Table.{Listed, Table, numbers, blank, nth, size, covers}
use Rattle.contracts.specs.Lines.{Line, day, rest, own, instr_of, is_own_line, has_line, owns, timely, all_timely, lines, delivers}
use Rattle.contracts.specs.Views.{table_of}
use Rattle.contracts.specs.declared.table.ContractTable.{ContractTable}
use Rattle.positions.specs.Law.{HoursKept, held_in_hour, delivered_in_hour, sum_with, own_in}
use Rattle.positions.specs.Results.{PositionsAre}
use Rattle.positions.specs.Net.{Relation, Places, Nearer, NoArbitrage, placed}
use Rattle.positions.specs.Netted.{Tier, position, relations_over, years, seasons, quarters, relations, owned, netted}
use Rattle.positions.specs.Sums.{sum_of, sum_to}
use Rattle.positions.proofs.SumLaws.{sum_of_same, sum_of_if, sum_of_append, sum_of_none}
use Rattle.positions.proofs.Calendar.{alike_same}
use Rattle.positions.proofs.Signs.{Proper, stays_away, nearer_refl, net_all_nearer, none_remains}
use Rattle.positions.proofs.Conserving.{AllWhole, net_all_conserves}
use Rattle.positions.proofs.Count.{same, same_true, all_listed, once}
use Rattle.positions.proofs.Good.{MonthsLong, Rule, Good, good}
use Rattle.positions.proofs.Taking.{OfTable}
use Rattle.positions.proofs.Swap.{sum_to_below}
use Rattle.positions.proofs.Whole.{conserves}
use Rattle.positions.proofs.Parts.{bit, Sound, over_whole, over_proper, month_long}

-- ---- the three tiers are sound
module _ (t : Table) (good : Good t) where
  rule : (i : ℕ) (x : Maturity) → i < size t → (nth t i).maturity ≡ x → Rule t (nth t i) x
  rule i x h e = subst (Rule t (nth t i)) e (good.dated i h)

  -- what the three tiers share: maturities that are alike are the same
  sound : (x : Tier) → (n : ℕ) × (x.count ≡ suc n) → 0 < x.months → alike x.whole SingleDay ≡ false → alike x.part SingleDay ≡ false → alike x.whole x.part ≡ false → ((i : ℕ) → i < size t → Rule t (nth t i) x.whole → MonthsLong (nth t i) (x.months * x.count)) → ((i : ℕ) → i < size t → Rule t (nth t i) x.part → MonthsLong (nth t i) x.months) → Sound t x
  sound x some positive whole-line part_line apart first_long part_long = record {
    some = some;
    positive = positive;
    first_long = λ i h e. first_long i h (rule i x.whole h (alike_same (nth t i).maturity x.whole e));
    part_long = λ i h e. part_long i h (rule i x.part h (alike_same (nth t i).maturity x.part e));
    first_line = λ y e. ap (λ z. alike z SingleDay) (alike_same y x.whole e) ∙ whole-line;
    part_line = λ y e. ap (λ z. alike z SingleDay) (alike_same y x.part e) ∙ part_line;
    differ = λ y e f. false≢true (sym (ap (λ z. alike z x.part) (alike_same y x.whole e) ∙ apart) ∙ f);
  }

  pub sound_years : Sound t years
  sound_years = sound years (3, refl) (lit≤ tt) refl refl refl (λ i h r. r.1) (λ i h r. r.1)

  pub sound_seasons : Sound t seasons
  sound_seasons = sound seasons (1, refl) (lit≤ tt) refl refl refl (λ i h r. r.1) (λ i h r. r.1)

  pub sound_quarters : Sound t quarters
  sound_quarters = sound quarters (2, refl) (lit≤ tt) refl refl refl (λ i h r. r.1) (λ i h r. month_long t (nth t i) r)

whole_append : (n : ℕ) (w : ℕ → ℕ) (xs ys : List Relation) → AllWhole n w xs → AllWhole n w ys → AllWhole n w (xs ++ ys)
whole_append n w [] ys a b = b
whole_append n w (x ∷ xs) ys a b = (a.0, whole_append n w xs ys a.1 b)

proper_append : (xs ys : List Relation) → Proper xs → Proper ys → Proper (xs ++ ys)
proper_append [] ys a b = b
proper_append (x ∷ xs) ys a b = (a.0, proper_append xs ys a.1 b)

counted : (a n b : ℕ) → a + n ≤ b → All (λ i. i < b) (range_with_len a n)
counted a zero b h = tt
counted a (suc n) b h = (omega arith, counted (a + 1) n b (omega arith))

-- ---- sums
sum_to_front : (f : ℕ → ℤ) (n : ℕ) → sum_to f (suc n) ≡ f 0 +ℤ sum_to (λ i. f (suc i)) n
sum_to_front f zero = omega (arith, ints)
sum_to_front f (suc n) = let h = sum_to_front f n in omega (arith, ints)

owns_sum : (t : Table) (f : Line → ℤ) (i : ℕ) (cs : List Listed) → sum_of f (owns t i cs) ≡ sum_to (λ m. cond (has_line t (get_or cs m blank)) (f (own (i + m))) (pos 0)) (length cs)
owns_sum t f i [] = refl
owns_sum t f i (c ∷ cs) =
    let a = sum_of_if f (has_line t c) (own i) (owns t (suc i) cs) in
    let r = owns_sum t f (suc i) cs in
    let shift : sum_to (λ m. cond (has_line t (get_or cs m blank)) (f (own (suc i + m))) (pos 0)) (length cs) ≡ sum_to (λ m. cond (has_line t (get_or cs m blank)) (f (own (i + suc m))) (pos 0)) (length cs) = sum_to_below _ _ (length cs) (λ m _. ap (λ j. cond (has_line t (get_or cs m blank)) (f (own j)) (pos 0)) (let e : suc i + m ≡ i + suc m = omega arith in e)) in
    let zero-on : cond (has_line t c) (f (own i)) (pos 0) ≡ cond (has_line t c) (f (own (i + 0))) (pos 0) = ap (λ j. cond (has_line t c) (f (own j)) (pos 0)) (let e : i ≡ i + 0 = omega arith in e) in
    a ∙ ap (λ s. cond (has_line t c) (f (own i)) (pos 0) +ℤ s) (r ∙ shift) ∙ ap (λ s. s +ℤ sum_to (λ m. cond (has_line t (get_or cs m blank)) (f (own (i + suc m))) (pos 0)) (length cs)) zero-on
    ∙ sym (sum_to_front (λ m. cond (has_line t (get_or (c ∷ cs) m blank)) (f (own (i + m))) (pos 0)) (length cs))

-- lines with positions that are worked out from them
sum_with_map : (f : Line → ℤ → ℤ) (g : Line → ℤ) (ls : List Line) → sum_with f ls (map g ls) ≡ sum_of (λ l. f l (g l)) ls
sum_with_map f g [] = refl
sum_with_map f g (l ∷ ls) = ap (λ s. f l (g l) +ℤ s) (sum_with_map f g ls)

nearer_zero : (a : ℤ) → Nearer a (pos 0)
nearer_zero a = record { above = λ h. (omega (arith, ints), h); below = λ h. (omega (arith, ints), h) }

weighed : (b c : Bool) (v : ℤ) → cond b (cond c v (pos 0)) (pos 0) ≡ pos (bit (b && c)) *ℤ v
weighed true true v = omega (arith, ints)
weighed true false v = sym (zero-*ℤ v)
weighed false c v = sym (zero-*ℤ v)

module _ (t : Table) (good : Good t) (q : ℕ → ℤ) where
  all_proper : Proper (relations t)
  unfolding relations
  all_proper =
      let ids = range_with_len 0 (size t) in
      proper_append (relations_over t years ids) _ (over_proper t years (sound_years t good) ids)
      (proper_append (relations_over t seasons ids) _ (over_proper t seasons (sound_seasons t good) ids) (over_proper t quarters (sound_quarters t good) ids))

  module _ (u d : ℕ) where
    abbrev w : ℕ → ℕ
    w i = bit (has_line t (nth t i) && (eqb (nth t i).instrument u && covers (nth t i) d))

    abbrev on : Line → Bool
    on l = eqb (instr_of t l) u && delivers t l d

    pub all_whole : AllWhole (size t) w (relations t)
    unfolding relations
    all_whole =
        let ids = range_with_len 0 (size t) in
        let inside = counted 0 (size t) (size t) (omega arith) in
        whole_append (size t) w (relations_over t years ids) _ (over_whole t years (sound_years t good) u d ids inside)
        (whole_append (size t) w (relations_over t seasons ids) _ (over_whole t seasons (sound_seasons t good) u d ids inside) (over_whole t quarters (sound_quarters t good) u d ids inside))

    -- the own lines that deliver on d
    owned_sum : (v : Line → ℤ) → sum_of (λ l. cond (on l) (v l) (pos 0)) (owns t 0 t.contracts) ≡ sum_to (λ i. pos (w i) *ℤ v (own i)) (size t)
    owned_sum v =
        owns_sum t (λ l. cond (on l) (v l) (pos 0)) 0 t.contracts
        ∙ sum_to_below _ _ (size t) (λ m _. ap (λ j. cond (has_line t (nth t m)) (cond (eqb (nth t j).instrument u && covers (nth t j) d) (v (own j)) (pos 0)) (pos 0)) (let e : 0 + m ≡ m = omega arith in e) ∙ weighed (has_line t (nth t m)) (eqb (nth t m).instrument u && covers (nth t m) d) (v (own m)))

    before : Line → ℤ
    before l = cond (on l) (position t q l) (pos 0)

    after : Line → ℤ
    after l = cond (on l) (netted t q l) (pos 0)

    days_same : (x : ℕ) (ds : List ℕ) → sum_of after (map (day x) ds) ≡ sum_of before (map (day x) ds)
    unfolding after before
    days_same x [] = refl
    days_same x (e ∷ ds) = ap (λ s. cond (eqb x u && eqb e d) (position t q (day x e)) (pos 0) +ℤ s) (days_same x ds)

    rest_same : (x m : ℕ) → after (rest x m) ≡ before (rest x m)
    unfolding after before
    rest_same x m = refl

    timely_same : (us : List ℕ) → sum_of after (all_timely t us) ≡ sum_of before (all_timely t us)
    timely_same [] = refl
    timely_same (x ∷ us) =
        let ds = range_with_len (t.date + 1) (t.horizon - t.date) in
        let m = month_of t.date in
        let a = sum_of_append after (timely t x) (all_timely t us) in
        let b = sum_of_append before (timely t x) (all_timely t us) in
        let c = sum_of_append after (map (day x) ds) (rest x m ∷ rest x (m + 1) ∷ []) in
        let e = sum_of_append before (map (day x) ds) (rest x m ∷ rest x (m + 1) ∷ []) in
        let f = days_same x ds in
        let g = rest_same x m in
        let h = rest_same x (m + 1) in
        let r = timely_same us in
        omega (arith, ints)

    owns_same : sum_of after (owns t 0 t.contracts) ≡ sum_of before (owns t 0 t.contracts)
    unfolding after before
    owns_same = owned_sum (netted t q) ∙ net_all_conserves (size t) w (relations t) all_whole (owned t q) ∙ sym (owned_sum (position t q))

    on_day : sum_of after (lines t) ≡ sum_of before (lines t)
    on_day =
        let a = sum_of_append after (all_timely t (numbers t)) (owns t 0 t.contracts) in
        let b = sum_of_append before (all_timely t (numbers t)) (owns t 0 t.contracts) in
        let c = timely_same (numbers t) in
        let e = owns_same in
        omega (arith, ints)

    by_hour : t.date < d → (b : Bool) → sum_of (λ l. cond (b && on l) (netted t q l) (pos 0)) (lines t) ≡ sum_to (λ i. cond (b && (eqb (nth t i).instrument u && covers (nth t i) d)) (q i) (pos 0)) (size t)
    unfolding after before
    by_hour late true = on_day ∙ conserves t good q u d late
    by_hour late false = sum_of_none (lines t) ∙ sym (sum_to_none (size t))
      where
        sum_to_none : (n : ℕ) → sum_to (λ i. pos 0) n ≡ pos 0
        sum_to_none zero = refl
        sum_to_none (suc n) = let h = sum_to_none n in omega (arith, ints)

  nearer : (l : Line) → Nearer (position t q l) (netted t q l)
  nearer (day u e) = nearer_refl (position t q (day u e))
  nearer (rest u m) = nearer_refl (position t q (rest u m))
  nearer (own i) = net_all_nearer (relations t) (owned t q) i

  in_hour : (masks : ℕ → ℕ → ℕ) (u d h : ℕ) → t.date < d → delivered_in_hour masks t (map (netted t q) (lines t)) u d h ≡ held_in_hour masks t q u d h
  in_hour masks u d h late = sum_with_map (λ l x. cond (delivered_in (masks u) d h && (eqb (instr_of t l) u && delivers t l d)) x (pos 0)) (netted t q) (lines t) ∙ by_hour u d late (delivered_in (masks u) d h)

  each_nearer : (ls : List Line) (k : ℕ) → Nearer (placed (map (position t q) ls) k) (placed (map (netted t q) ls) k)
  each_nearer [] k = nearer_refl (pos 0)
  each_nearer (l ∷ ls) zero = nearer l
  each_nearer (l ∷ ls) (suc k) = each_nearer ls k

  own_same : (g : Line → ℤ) (i : ℕ) (l : Line) → cond (is_own_line i l) (g l) (pos 0) ≡ cond (same (own i) l) (g (own i)) (pos 0)
  own_same g i (day u e) = refl
  own_same g i (rest u m) = refl
  own_same g i (own j) = by (cases_Bool (eqb j i))
    where
      by : (eqb j i ≡ true) ⊎ (eqb j i ≡ false) → cond (eqb j i) (g (own j)) (pos 0) ≡ cond (eqb j i) (g (own i)) (pos 0)
      by (inl e) = ap (λ x. cond (eqb j i) (g (own x)) (pos 0)) (eqb-true j i e)
      by (inr e) = cond-false (eqb j i) (g (own j)) (pos 0) e ∙ sym (cond-false (eqb j i) (g (own i)) (pos 0) e)

  module _ (v : ℤ) (i : ℕ) where
    abbrev mine : Line → ℤ
    mine l = cond (same (own i) l) v (pos 0)

    find_own : (ls : List Line) → All (OfTable t good) ls → OfTable t good (own i) ⊎ (sum_of mine ls ≡ pos 0)
    find_own [] a = inr refl
    find_own (l ∷ ls) a = elim (cases_Bool (same (own i) l)) [
      | inl e ↦ inl (subst (OfTable t good) (same_true (own i) l e) a.0)
      | inr e ↦ elim (find_own ls a.1) [
        | inl o ↦ inl o
        | inr z ↦ inr (let n = cond-false (same (own i) l) v (pos 0) e in omega (arith, ints))
      ]
    ]

    -- what is not listed is found with no position
    mine_nearer : Nearer v (sum_of mine (lines t))
    mine_nearer = elim (find_own (lines t) (all_listed t good)) [
      | inl o ↦ subst (Nearer v) (sym (once t good v (own i) o)) (nearer_refl v)
      | inr z ↦ subst (Nearer v) (sym z) (nearer_zero v)
    ]

  own_nearer : (g : Line → ℤ) (i : ℕ) → Nearer (g (own i)) (own_in t (map g (lines t)) i)
  own_nearer g i =
      let found = sum_with_map (λ l x. cond (is_own_line i l) x (pos 0)) g (lines t) in
      let shared = sum_of_same (λ l. cond (is_own_line i l) (g l) (pos 0)) (mine (g (own i)) i) (lines t) (own_same g i) in
      subst (Nearer (g (own i))) (sym (found ∙ shared)) (mine_nearer (g (own i)) i)

  still_none : (rs : List Relation) (p r : Places) → ((i : ℕ) → Nearer (p i) (r i)) → NoArbitrage rs p → NoArbitrage rs r
  still_none [] p r n a = tt
  still_none (x ∷ rs) p r n a = (stays_away x p r n a.0, still_none rs p r n a.1)

  left_none : NoArbitrage (relations t) (own_in t (map (netted t q) (lines t)))
  left_none = still_none (relations t) _ _ (own_nearer (netted t q)) (none_remains (relations t) (owned t q) all_proper)

  pub kept : (masks : ℕ → ℕ → ℕ) (before after : List ℤ) → PositionsAre t q before after → HoursKept masks t q before after
  kept masks before after e = record {
    conserved = λ u d h late. ap (λ (xs : List ℤ). delivered_in_hour masks t xs u d h) e.netted_down ∙ in_hour masks u d h late;
    nearer = λ k. subst (λ (xs : List ℤ). Nearer (placed xs k) (placed after k)) (sym e.broken_down) (subst (λ (xs : List ℤ). Nearer (placed (map (position t q) (lines t)) k) (placed xs k)) (sym e.netted_down) (each_nearer (lines t) k));
    none_left = subst (λ (xs : List ℤ). NoArbitrage (relations t) (own_in t xs)) (sym e.netted_down) left_none;
  }

pub hours_kept : {P : Type 0} (s : ContractTable P) (masks : ℕ → ℕ → ℕ) (q : ℕ → ℤ) (before after : List ℤ) → PositionsAre (table_of s) q before after → HoursKept masks (table_of s) q before after
hours_kept s masks q before after e = kept (table_of s) (good s) q masks before after e
