-- The breakdown conserves what is delivered on each day after the date.
use Rattle.std.proofs.Common.{◌≡◌, ℕ, suc, ◌<◌, Bool, true, false, cond, not, ◌&&◌, eqb, ltb, ℤ, pos, sym, refl, ap, ◌∙◌, subst, inl, inr, arith}
use Rattle.std.proofs.lemmas.Bool.{cases_Bool, ne_eqb, and_left, and_right, cases_eq, and_parts, and_from, eq-eqb, eqb-true, both_ways, cond-true, cond-false, cases_lt, lt-ltb, not_from_false}
use Rattle.calendar.specs.declared.maturity.Maturity.TheVariants.{SingleDay}
use Rattle.contracts.specs.Table.{Table, nth, size, last_day, is_open, covers}
use Rattle.contracts.specs.Lines.{Line, day, rest, own, instr_of, is_day, lines, takes, delivers, is_day_line, is_own_line, gives_on, gives, goes_to, reaches}
use Rattle.contracts.proofs.Searches.{any_true, any_from}
use Rattle.positions.specs.Netted.{position}
use Rattle.positions.specs.Sums.{sum_of, sum_to}
use Rattle.positions.proofs.SumLaws.{sum_of_none}
use Rattle.positions.proofs.Calendar.{alike_same}
use Rattle.positions.proofs.Good.{Rule, Good}
use Rattle.positions.proofs.Swap.{sum_of_all, conserved}
use Rattle.positions.proofs.Taking.{iff_same, covers_true, covers_from, takes_delivers, OfTable, uniform, one_taker, taker, near_days, inside}
use Rattle.positions.proofs.Count.{same, same_refl, same_true, all_listed, once, and_on}

module _ (t : Table) (good : Good t) where
  one_line : (v : ℤ) (p : Line → Bool) (l : Line) → OfTable t good l → p l ≡ true → ((m : Line) → OfTable t good m → p m ≡ true → m ≡ l) → sum_of (λ m. cond (p m) v (pos 0)) (lines t) ≡ v
  one_line v p l h e only =
      sum_of_all (OfTable t good) (λ m. cond (p m) v (pos 0)) (λ m. cond (same l m) v (pos 0)) (lines t) (all_listed t good)
      (λ m g. ap (λ b. cond b v (pos 0)) (iff_same (p m) (same l m) (λ x. subst (λ y. same l y ≡ true) (sym (only m g x)) (same_refl l)) (λ x. subst (λ y. p y ≡ true) (sym (same_true l m x)) e)))
      ∙ once t good v l h

  no_line : (v : ℤ) (p : Line → Bool) → ((m : Line) → OfTable t good m → p m ≡ true → ⊥) → sum_of (λ m. cond (p m) v (pos 0)) (lines t) ≡ pos 0
  no_line v p never =
      sum_of_all (OfTable t good) (λ m. cond (p m) v (pos 0)) (λ m. pos 0) (lines t) (all_listed t good)
      (λ m g. cond-false (p m) v (pos 0) (elim (cases_Bool (p m)) [ inl x ↦ absurd (never m g x) | inr x ↦ x ]))
      ∙ sum_of_none (lines t)

  module _ (u d : ℕ) (after : t.date < d) (v : ℤ) (i : ℕ) (h : i < size t) where
    abbrev both : Line → Bool
    both l = (eqb (instr_of t l) u && delivers t l d) && reaches t i l

    abbrev Told : Type 0
    Told = sum_of (λ l. cond (both l) v (pos 0)) (lines t) ≡ cond (eqb (nth t i).instrument u && covers (nth t i) d) v (pos 0)

    -- what it is that both hold
    pub record Both (l : Line) : Type 0 where
      pub asked : instr_of t l ≡ u
      pub its : instr_of t l ≡ (nth t i).instrument
      pub on : delivers t l d ≡ true
      pub goes : goes_to t i l ≡ true

    both_true : (l : Line) → both l ≡ true → Both l
    both_true l e =
        let a = and_parts (eqb (instr_of t l) u && delivers t l d) (reaches t i l) e in
        let b = and_parts (eqb (instr_of t l) u) (delivers t l d) a.0 in
        let c = and_parts (eqb (instr_of t l) (nth t i).instrument) (goes_to t i l) a.1 in
        record { asked = eqb-true (instr_of t l) u b.0; its = eqb-true (instr_of t l) (nth t i).instrument c.0; on = b.1; goes = c.1 }

    both_from : (l : Line) → Both l → both l ≡ true
    both_from l b =
        and_from (eqb (instr_of t l) u && delivers t l d) (reaches t i l)
        (and_from (eqb (instr_of t l) u) (delivers t l d) (eq-eqb (instr_of t l) u b.asked) b.on)
        (and_from (eqb (instr_of t l) (nth t i).instrument) (goes_to t i l) (eq-eqb (instr_of t l) (nth t i).instrument b.its) b.goes)

    told_yes : (nth t i).instrument ≡ u → covers (nth t i) d ≡ true → (l : Line) → OfTable t good l → Both l → ((m : Line) → OfTable t good m → Both m → m ≡ l) → Told
    told_yes w c l g e only = one_line v both l g (both_from l e) (λ m n b. only m n (both_true m b)) ∙ sym (cond-true (eqb (nth t i).instrument u && covers (nth t i) d) v (pos 0) (and_from (eqb (nth t i).instrument u) (covers (nth t i) d) (eq-eqb (nth t i).instrument u w) c))

    told_no : (eqb (nth t i).instrument u && covers (nth t i) d) ≡ false → ((m : Line) → OfTable t good m → Both m → ⊥) → Told
    told_no c never = no_line v both (λ m n b. never m n (both_true m b)) ∙ sym (cond-false (eqb (nth t i).instrument u && covers (nth t i) d) v (pos 0) c)

    -- of another instrument
    by_other : ((nth t i).instrument ≡ u → ⊥) → Told
    by_other n = told_no (and_left (eqb (nth t i).instrument u) (covers (nth t i) d) (ne_eqb (nth t i).instrument u n)) (λ m g b. n (sym b.its ∙ b.asked))

    module _ (w : (nth t i).instrument ≡ u) where
      -- a contract that goes to one line
      direct : (l : Line) → OfTable t good l → instr_of t l ≡ (nth t i).instrument → ((m : Line) → instr_of t m ≡ (nth t i).instrument → goes_to t i m ≡ same l m) → delivers t l d ≡ covers (nth t i) d → Told
      direct l g s goes days = elim (cases_Bool (covers (nth t i) d)) [
        | inl c ↦ told_yes w c l g (record { asked = s ∙ w; its = s; on = days ∙ c; goes = goes l s ∙ same_refl l }) (λ m n b. same_true l m (sym (goes m b.its) ∙ b.goes))
        | inr c ↦ told_no (and_right (eqb (nth t i).instrument u) (covers (nth t i) d) c) (λ m n b.
            let is : m ≡ l = same_true l m (sym (goes m b.its) ∙ b.goes) in
            both_ways (covers (nth t i) d) c (sym days ∙ subst (λ x. delivers t x d ≡ true) is b.on))
      ]

      day_same : (m : Line) → instr_of t m ≡ (nth t i).instrument → is_day_line (nth t i).first m ≡ same (day (nth t i).instrument (nth t i).first) m
      day_same (day x e) s = sym (and_on (eqb x (nth t i).instrument) (eqb e (nth t i).first) (eq-eqb x (nth t i).instrument s))
      day_same (rest x m) s = refl
      day_same (own j) s = refl

      own_same : (m : Line) → is_own_line i m ≡ same (own i) m
      own_same (day x e) = refl
      own_same (rest x m) = refl
      own_same (own j) = refl

      by_day : is_day (nth t i) ≡ true → Told
      by_day e =
          let r : Rule t (nth t i) SingleDay = subst (Rule t (nth t i)) (alike_same (nth t i).maturity SingleDay e) (good.dated i h) in
          direct (day (nth t i).instrument (nth t i).first) (good.listed i h, r.1, omega (arith, r.0, r.2)) refl (λ m s. cond-true (is_day (nth t i)) (is_day_line (nth t i).first m) _ e ∙ day_same m s)
          (iff_same (eqb (nth t i).first d) (covers (nth t i) d)
          (λ x. (let q = eqb-true (nth t i).first d x in covers_from (nth t i) d (omega arith) (omega (arith, r.0))))
          (λ x. (let q = covers_true (nth t i) d x in eq-eqb (nth t i).first d (omega (arith, r.0, q.0, q.1)))))

      by_open : is_day (nth t i) ≡ false → is_open t (nth t i) ≡ true → Told
      by_open n o =
          direct (own i) (h, and_from (is_open t (nth t i)) (not (is_day (nth t i))) o (not_from_false (is_day (nth t i)) n)) refl
          (λ m s. cond-false (is_day (nth t i)) (is_day_line (nth t i).first m) _ n ∙ cond-true (is_open t (nth t i)) (is_own_line i m) _ o ∙ own_same m) refl

      module _ (n : is_day (nth t i) ≡ false) (o : is_open t (nth t i) ≡ false) where
        goes : (m : Line) → goes_to t i m ≡ gives t (nth t i) m
        goes m = cond-false (is_day (nth t i)) (is_day_line (nth t i).first m) _ n ∙ cond-false (is_open t (nth t i)) (is_own_line i m) (gives t (nth t i) m) o

        -- the day by which it goes there
        by_which : (m : Line) → Both m → (e : ℕ) × (covers (nth t i) e ≡ true) × (takes t m e ≡ true)
        by_which m b =
            let a = any_true (gives_on t (nth t i) m) (suc (last_day (nth t i))) (sym (goes m) ∙ b.goes) in
            let q = and_parts (covers (nth t i) a.0 && ltb t.date a.0) (takes t m a.0) a.2 in
            (a.0, (and_parts (covers (nth t i) a.0) (ltb t.date a.0) q.0).0, q.1)

        takes_it : (m : Line) → OfTable t good m → Both m → takes t m d ≡ true
        takes_it m g b = let x = by_which m b in uniform t good m x.0 d g x.2 b.on

        by_running : Told
        by_running = elim (cases_Bool (covers (nth t i) d)) [
          | inl c ↦ (
              let x = taker t good (nth t i).instrument d (good.listed i h) after (elim (cases_lt t.horizon d) [ inr z ↦ inl z | inl z ↦ inr (z, near_days t good i d h n o z c) ]) in
              let l = x.0 in
              let there : goes_to t i l ≡ true = goes l ∙ any_from (gives_on t (nth t i) l) (suc (last_day (nth t i))) d (let q = (covers_true (nth t i) d c).1 in omega arith) (and_from (covers (nth t i) d && ltb t.date d) (takes t l d) (and_from (covers (nth t i) d) (ltb t.date d) c (lt-ltb t.date d after)) x.3) in
              told_yes w c l x.1 (record { asked = x.2 ∙ w; its = x.2; on = takes_delivers t good l d x.1 x.3; goes = there }) (λ m g b. one_taker t good m l d g x.1 (b.its ∙ sym x.2) (takes_it m g b) x.3))
          | inr c ↦ told_no (and_right (eqb (nth t i).instrument u) (covers (nth t i) d) c) (λ m g b. let x = by_which m b in both_ways (covers (nth t i) d) c (inside t good i m x.0 d h g n o x.1 x.2 (takes_it m g b)))
        ]

      by_maturity : Told
      by_maturity = elim (cases_Bool (is_day (nth t i))) [
        | inl e ↦ by_day e
        | inr n ↦ elim (cases_Bool (is_open t (nth t i))) [ inl o ↦ by_open n o | inr o ↦ by_running n o ]
      ]

    told : Told
    told = elim (cases_eq (nth t i).instrument u) [ inl w ↦ by_maturity w | inr n ↦ by_other n ]

-- in instrument u, on day d: what the contracts hold is what the lines come to
pub conserves : (t : Table) → Good t → (q : ℕ → ℤ) (u d : ℕ) → t.date < d → sum_of (λ l. cond (eqb (instr_of t l) u && delivers t l d) (position t q l) (pos 0)) (lines t) ≡ sum_to (λ i. cond (eqb (nth t i).instrument u && covers (nth t i) d) (q i) (pos 0)) (size t)
conserves t good q u d after = conserved (size t) (lines t) q (λ l. eqb (instr_of t l) u && delivers t l d) (reaches t) (λ i. eqb (nth t i).instrument u && covers (nth t i) d) (λ i h. told t good u d after (q i) i h)
