-- Every line of a contract table has a name.
use Rattle.std.proofs.Common.{◌≡◌, ℕ, zero, suc, ◌+◌, ◌-◌, ◌<◌, ◌≤◌, true, false, eqb, ltb, leb, List, [], ◌∷◌, length, get_or, take, pos, sym, refl, ap, ◌∙◌, subst, inl, inr, arith}
use Rattle.std.proofs.lemmas.Bool.{cases_lt, and_parts, and_from, or_cases, or_parts, not-false, false≢true, eqb-true, eq-eqb, ltb-true, leb-true, le-leb, cond-true, cond-false}
use Rattle.terms.specs.Ranges.{holds_in}
use Rattle.terms.specs.declared.bounds.Bounds.TheVariants.{Instrument, DayOffset}
use Rattle.terms.specs.declared.refusal.Refusal.TheVariants.{OutOfRange}
use Rattle.days.specs.Months.{month_of}
use Rattle.contracts.proofs.Keeping.{passes, passes_all}
use Rattle.contracts.specs.Lines.{day, rest, own}
use Rattle.contracts.specs.Rules.{is_numbered, same_key, is_repeated, up_to, InstrumentsKept, ContractsKept}
use Rattle.contracts.specs.Table.{Table, Instr, Listed, blank, nth, size}
use Rattle.tariff.specs.Rules.{place_of, LinesNamed}
use Rattle.tariff.specs.declared.rows.LineName.TheVariants.{Day, Rest, Own}
use Rattle.tariff.proofs.Naming.{is_numbered_more, lines_day, lines_rest, lines_own, no_line}

-- ---- the number of a listed instrument is in range
place_numbered : (is : List Instr) (u : ℕ) → is_numbered u is ≡ true → (k : ℕ) × (k < length is) × ((d : Instr) → (get_or is k d).number ≡ u)
place_numbered [] u h = absurd (false≢true h)
place_numbered (i ∷ is) u h = elim (or_cases (eqb i.number u) (is_numbered u is) (sym (is_numbered_more i is u) ∙ h)) [
  | inl a ↦ (0, omega arith, λ d. eqb-true i.number u a)
  | inr a ↦ (let p = place_numbered is u a in (suc p.0, omega (arith, p.1), p.2))
]

in_range : (is : List Instr) (u : ℕ) → InstrumentsKept is → is_numbered u is ≡ true → holds_in Instrument (pos u) ≡ true
in_range is u kept h =
    let p = place_numbered is u h in
    elim is as (λ js. is ≡ js → holds_in Instrument (pos u) ≡ true) [
      | [] ↦ λ e. absurd (false≢true (subst (λ (js : List Instr). is_numbered u js ≡ true) e h))
      | i ∷ js ↦ λ e. (
          let r = passes _ OutOfRange _ (kept p.0 i p.1) in
          subst (λ (n : ℕ). holds_in Instrument (pos n) ≡ true) (p.2 i) (not-false _ r.0))
    ] refl

-- ---- a contract is the first with its number
place_at : (cs : List Listed) (j : ℕ) → j < length cs → is_repeated (get_or cs j blank) (take j cs) ≡ false → place_of (get_or cs j blank).number cs ≡ j
place_at [] j h apart = absurd (omega arith)
place_at (c ∷ cs) zero h apart = cond-true (eqb c.number c.number) 0 _ (eq-eqb c.number c.number refl)
place_at (c ∷ cs) (suc j) h apart =
    let x = get_or cs j blank in
    let p = or_parts (same_key x c) (is_repeated x (take j cs)) apart in
    let q = or_parts (eqb c.number x.number) _ p.0 in
    cond-false (eqb c.number x.number) 0 _ q.0 ∙ ap suc (place_at cs j (omega arith) p.1)

-- ---- the name of each line
module _ (t : Table) (near : t.horizon ≤ t.date + 14) (instruments : InstrumentsKept t.instruments) (contracts : ContractsKept t) where
  pub lines_named : LinesNamed t
  lines_named (day u d) h =
      let p = and_parts (is_numbered u t.instruments) _ (sym (lines_day t u d) ∙ h) in
      let q = and_parts (ltb t.date d) (leb d t.horizon) p.1 in
      let after = ltb-true t.date d q.0 in
      let by = leb-true d t.horizon q.1 in
      let offset : holds_in DayOffset (pos (d - t.date)) ≡ true = and_from _ _ (le-leb 1 (d - t.date) (omega arith)) (le-leb (d - t.date) 14 (omega arith)) in
      let same : t.date + (d - t.date) ≡ d = omega arith in
      (Day u (d - t.date), and_from _ _ (in_range t.instruments u instruments p.0) offset, ap (day u) same)
  lines_named (rest u m) h =
      let p = and_parts (is_numbered u t.instruments) _ (sym (lines_rest t u m) ∙ h) in
      let listed = in_range t.instruments u instruments p.0 in
      elim (or_cases (eqb (month_of t.date) m) (eqb (month_of t.date + 1) m) p.1) [
        | inl a ↦ (let e = eqb-true (month_of t.date) m a in let same : month_of t.date + 0 ≡ m = omega arith in (Rest u 0, and_from _ _ listed refl, ap (rest u) same))
        | inr a ↦ (Rest u 1, and_from _ _ listed refl, ap (rest u) (eqb-true (month_of t.date + 1) m a))
      ]
  lines_named (own j) h =
      let e = sym (lines_own t j) ∙ h in
      elim (cases_lt j (size t)) [
        | inl a ↦ (let p = passes_all (up_to j t) (nth t j) (contracts j a) in (Own (nth t j).number, (and_parts _ _ p.numbered).0, ap own (place_at t.contracts j a p.apart)))
        | inr a ↦ absurd (no_line t j a e)
      ]
