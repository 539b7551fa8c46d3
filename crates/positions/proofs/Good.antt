-- The rules that a contract table keeps, as breakdown and netting use them.
use Rattle.std.proofs.Common.{◌≡◌, ℕ, zero, suc, ◌+◌, ◌-◌, ◌<◌, ◌≤◌, Bool, true, false, cond, not, ◌&&◌, ◌||◌, eqb, ltb, leb, ◌⊎◌, List, [], ◌∷◌, map, length, get_or, take, pos, is_some, Some, sym, refl, ap, ◌∙◌, subst, inl, inr, arith}
use Rattle.std.proofs.lemmas.List.{length-take-le, get_or-take}
use Rattle.std.proofs.lemmas.Bool.{cases_Bool, cases_lt, and_parts, and_from, or_cases, or_left, or_from, or_parts, eq-eqb, ne_eqb, eqb-true, both_ways, false≢true, leb-true, ltb-true, cond-true, cond-false}
use Rattle.terms.specs.Ranges.{holds_in}
use Rattle.terms.specs.declared.bounds.Bounds.TheVariants.{Instrument}
use Rattle.terms.specs.declared.refusal.Refusal.TheVariants.{OutOfRange, RepeatedKey}
use Rattle.days.specs.Months.{month_of, month_start, month_end}
use Rattle.days.specs.Days.{weekday_at}
use Rattle.calendar.specs.Periods.{maturity_letter, alike, starts_on, last_of, first_of_month}
use Rattle.calendar.specs.declared.maturity.Maturity.{Maturity}
use Rattle.calendar.specs.declared.maturity.Maturity.TheVariants.{SingleDay, Weekend, Workdays, Week, RestOfMonth, Month, Quarter, Season, Year}
use Rattle.contracts.specs.Table.{Instr, Listed, Table, numbers, blank, nth, size, last_day, is_open, kind_in, option_in}
use Rattle.contracts.specs.Rules.{is_numbered, same_key, is_repeated, is_near, is_long, on_time, keeps_dates, up_to, InstrumentsKept, ContractsKept}
use Rattle.contracts.specs.Views.{table_of}
use Rattle.contracts.specs.declared.table.ContractTable.{ContractTable}
use Rattle.contracts.proofs.Keeping.{passes, passes_all}
use Rattle.positions.specs.Net.{is_in}
use Rattle.positions.proofs.Calendar.{last_in, past_start, before_start}
use Rattle.positions.specs.Steps.{Distinct}

-- ---- the date rules
abbrev pub ShortRule : Table → Listed → Type 0
ShortRule t c = ((is_open t c ≡ false) × (last_day c ≤ t.horizon)) ⊎ ((is_open t c ≡ true) × (t.horizon < c.first))

abbrev pub Near : Table → Listed → Type 0
Near t c = (month_of c.first ≡ month_of t.date) ⊎ (month_of c.first ≡ month_of t.date + 1)

-- n whole months
pub record MonthsLong (c : Listed) (n : ℕ) : Type 0 where
  pub starts : (d : ℕ) → d < c.first → month_of d < month_of c.first
  pub spans : month_of (last_day c) + 1 ≡ month_of c.first + n
  pub ends : (d : ℕ) → last_day c < d → month_of (last_day c) < month_of d

abbrev pub Rule : Table → Listed → Maturity → Type 0
Rule t c SingleDay = (c.first ≡ last_day c) × (t.date < c.first) × (last_day c ≤ t.horizon)
Rule t c Weekend = (weekday_at c.first ≡ 5) × (last_day c ≡ c.first + 1) × ShortRule t c
Rule t c Workdays = (weekday_at c.first ≡ 0) × (last_day c ≡ c.first + 4) × ShortRule t c
Rule t c Week = (weekday_at c.first ≡ 0) × (last_day c ≡ c.first + 6) × ShortRule t c
Rule t c RestOfMonth = (last_day c ≡ month_end c.first) × (is_open t c ≡ false → (Near t c × (c.first ≤ t.horizon + 1)))
Rule t c Month = (last_day c ≡ month_end c.first) × ((d : ℕ) → d < c.first → month_of d < month_of c.first) × (is_open t c ≡ false → Near t c)
Rule t c Quarter = (is_open t c ≡ true) × MonthsLong c 3
Rule t c Season = (is_open t c ≡ true) × MonthsLong c 6
Rule t c Year = (is_open t c ≡ true) × MonthsLong c 12

pub record Good (t : Table) : Type 0 where
  pub ahead : t.date < t.horizon
  pub once : Distinct (numbers t)
  pub listed : (i : ℕ) → i < size t → is_in (nth t i).instrument (numbers t) ≡ true
  pub dated : (i : ℕ) → i < size t → Rule t (nth t i) (nth t i).maturity
  pub apart : (i j : ℕ) → i < size t → j < size t → (nth t i).instrument ≡ (nth t j).instrument → (nth t i).maturity ≡ (nth t j).maturity → (nth t i).first ≡ (nth t j).first → i ≡ j

-- ---- the instruments
or_off : (a b : Bool) → a ≡ false → (a || b) ≡ b
or_off true b e = absurd (false≢true (sym e))
or_off false b e = refl

module _ (u : ℕ) where
  numbered_is : (is : List Instr) → is_numbered u is ≡ is_in u (map (λ (i : Instr). i.number) is)
  numbered_is [] = refl
  numbered_is (i ∷ is) = elim (cases_Bool (eqb i.number u)) [
    | inl a ↦ ap is_some (cond-true (eqb i.number u) (Some i.kind) (kind_in is u) a) ∙ sym (or_left (eqb u i.number) _ (eq-eqb u i.number (sym (eqb-true i.number u a))))
    | inr a ↦ ap is_some (cond-false (eqb i.number u) (Some i.kind) (kind_in is u) a) ∙ numbered_is is ∙ sym (or_off (eqb u i.number) _ (ne_eqb u i.number (λ e. both_ways (eqb i.number u) a (eq-eqb i.number u (sym e)))))
  ]

  not_among : (is : List Instr) → ((k : ℕ) (d : Instr) → k < length is → eqb (get_or is k d).number u ≡ false) → is_in u (map (λ (i : Instr). i.number) is) ≡ false
  not_among [] h = refl
  not_among (j ∷ js) h = or_from (eqb u j.number) _ (ne_eqb u j.number (λ e. both_ways (eqb j.number u) (h 0 j (omega arith)) (eq-eqb j.number u (sym e)))) (not_among js (λ k d l. h (suc k) d (omega arith)))

-- where no number stands among those before it, all are distinct
distinct_from : (is : List Instr) → ((k : ℕ) (d : Instr) → k < length is → is_in (get_or is k d).number (map (λ (i : Instr). i.number) (take k is)) ≡ false) → Distinct (map (λ (i : Instr). i.number) is)
distinct_from [] h = tt
distinct_from (i ∷ is) h = (
  not_among i.number is (λ k d l. (or_parts (eqb (get_or is k d).number i.number) _ (h (suc k) d (omega arith))).0),
  distinct_from is (λ k d l. (or_parts (eqb (get_or is k d).number i.number) _ (h (suc k) d (omega arith))).1),
)

numbered_once : (is : List Instr) → InstrumentsKept is → Distinct (map (λ (i : Instr). i.number) is)
numbered_once is kept = distinct_from is (λ k d l.
    let u : ℕ = (get_or is k d).number in
    let a = passes (not (holds_in Instrument (pos u))) OutOfRange _ (kept k d l) in
    let b = passes (is_numbered u (take k is)) RepeatedKey _ a.1 in
    sym (numbered_is u (take k is)) ∙ b.0)

-- ---- keys apart
unlike : (c : Listed) (cs : List Listed) (k : ℕ) → k < length cs → is_repeated c cs ≡ false → same_key c (get_or cs k blank) ≡ false
unlike c [] k h e = absurd (omega arith)
unlike c (x ∷ xs) zero h e = (or_parts (same_key c x) (is_repeated c xs) e).0
unlike c (x ∷ xs) (suc k) h e = unlike c xs k (omega arith) (or_parts (same_key c x) (is_repeated c xs) e).1

later_apart : (t : Table) → ContractsKept t → (i j : ℕ) → i < j → j < size t → (nth t i).instrument ≡ (nth t j).instrument → (nth t i).maturity ≡ (nth t j).maturity → (nth t i).first ≡ (nth t j).first → ⊥
later_apart t kept i j l h a b d =
    let p = passes_all (up_to j t) (nth t j) (kept j h) in
    let n = length-take-le j t.contracts (omega arith) in
    let e : same_key (nth t j) (nth t i) ≡ false = subst (λ x. same_key (nth t j) x ≡ false) (get_or-take j t.contracts i blank l) (unlike (nth t j) (take j t.contracts) i (omega arith) p.apart) in
    let f = (or_parts (eqb (nth t i).number (nth t j).number) _ e).1 in
    both_ways _ f (and_from (eqb (nth t i).instrument (nth t j).instrument) _ (eq-eqb _ _ a) (and_from (alike (nth t i).maturity (nth t j).maturity) _ (eq-eqb _ _ (ap maturity_letter b)) (eq-eqb _ _ d)))

-- ---- dates
module _ (t : Table) (c : Listed) where
  short : cond (is_open t c) (ltb t.horizon c.first) (leb (last_day c) t.horizon) ≡ true → ShortRule t c
  short e = elim (cases_Bool (is_open t c)) [
    | inl o ↦ inr (o, ltb-true t.horizon c.first (sym (cond-true (is_open t c) (ltb t.horizon c.first) (leb (last_day c) t.horizon) o) ∙ e))
    | inr o ↦ inl (o, leb-true (last_day c) t.horizon (sym (cond-false (is_open t c) (ltb t.horizon c.first) (leb (last_day c) t.horizon) o) ∙ e))
  ]

  near : is_near t c ≡ true → Near t c
  near e = elim (or_cases (eqb (month_of c.first) (month_of t.date)) (eqb (month_of c.first) (month_of t.date + 1)) e) [
    | inl a ↦ inl (eqb-true (month_of c.first) (month_of t.date) a)
    | inr a ↦ inr (eqb-true (month_of c.first) (month_of t.date + 1) a)
  ]

  running : (b : Bool) → (is_open t c || b) ≡ true → is_open t c ≡ false → b ≡ true
  running b e o = elim (or_cases (is_open t c) b e) [ inl x ↦ absurd (both_ways (is_open t c) o x) | inr x ↦ x ]

  opened : (is_open t c || false) ≡ true → is_open t c ≡ true
  opened e = elim (or_cases (is_open t c) false e) [ inl x ↦ x | inr x ↦ absurd (false≢true x) ]

  from_first : first_of_month c.first ≡ true → (d : ℕ) → d < c.first → month_of d < month_of c.first
  from_first f d h = let s = eqb-true (month_start (month_of c.first)) c.first f in before_start (month_of c.first) d (omega arith)

  whole_months : (n : ℕ) → 1 ≤ n → first_of_month c.first ≡ true → last_day c ≡ month_start (month_of c.first + n) - 1 → MonthsLong c n
  whole_months n h f e =
      let m : ℕ = month_of c.first in
      let z : m + n ≡ m + (n - 1) + 1 = omega arith in
      let l : month_of (last_day c) ≡ m + (n - 1) = ap month_of (e ∙ ap (λ k. month_start k - 1) z) ∙ last_in (m + (n - 1)) in
      record { starts = from_first f; spans = omega arith; ends = λ d g. (let p = past_start (m + n) d (omega arith) in omega arith) }

  -- k rows before it, o says whether it is an option
  date_rule : (k : ℕ) (o : Bool) (x : Maturity) → last_day c ≡ last_of x c.first → starts_on x c.first ≡ true → (is_open t c || not (is_long x || o)) ≡ true → on_time (up_to k t) c x ≡ true → Rule t c x
  unfolding month_end
  date_rule k o SingleDay e s p q = let a = and_parts (ltb t.date c.first) (leb (last_day c) t.horizon) q in (sym e, ltb-true t.date c.first a.0, leb-true (last_day c) t.horizon a.1)
  date_rule k o Weekend e s p q = (eqb-true (weekday_at c.first) 5 s, e, short q)
  date_rule k o Workdays e s p q = (eqb-true (weekday_at c.first) 0 s, e, short q)
  date_rule k o Week e s p q = (eqb-true (weekday_at c.first) 0 s, e, short q)
  date_rule k o RestOfMonth e s p q = (e, λ f. (let a = and_parts (is_near t c) (leb c.first (t.horizon + 1)) (running _ q f) in (near a.0, leb-true c.first (t.horizon + 1) a.1)))
  date_rule k o Month e s p q = (e, from_first s, λ f. near (running (is_near t c) q f))
  date_rule k o Quarter e s p q = (opened p, whole_months 3 (omega arith) (and_parts (first_of_month c.first) _ s).0 e)
  date_rule k o Season e s p q = (opened p, whole_months 6 (omega arith) (and_parts (first_of_month c.first) _ s).0 e)
  date_rule k o Year e s p q = (opened p, whole_months 12 (omega arith) (and_parts (first_of_month c.first) _ s).0 e)

  dated_by : (k : ℕ) → keeps_dates (up_to k t) c ≡ true → Rule t c c.maturity
  dated_by k e =
      let a = and_parts (starts_on c.maturity c.first && leb (last_day c) 36524) _ e in
      let s = and_parts (starts_on c.maturity c.first) (leb (last_day c) 36524) a.0 in
      let b = and_parts (ltb c.registration c.first && ltb t.date (last_day c)) _ a.1 in
      let d = and_parts (is_open t c || not (is_long c.maturity || option_in t c.instrument)) (on_time (up_to k t) c c.maturity) b.1 in
      date_rule k (option_in t c.instrument) c.maturity refl s.0 d.0 d.1

pub good_of : (t : Table) → t.date < t.horizon → InstrumentsKept t.instruments → ContractsKept t → Good t
good_of t ahead is cs = record {
  ahead = ahead;
  once = numbered_once t.instruments is;
  listed = λ i h. sym (numbered_is (nth t i).instrument t.instruments) ∙ (passes_all (up_to i t) (nth t i) (cs i h)).known;
  dated = λ i h. dated_by t (nth t i) i (passes_all (up_to i t) (nth t i) (cs i h)).dated;
  apart = λ i j hi hj a b d. elim (cases_lt i j) [
    | inl l ↦ absurd (later_apart t cs i j l hj a b d)
    | inr l ↦ elim (cases_lt j i) [
      | inl m ↦ absurd (later_apart t cs j i m hi (sym a) (sym b) (sym d))
      | inr m ↦ omega arith
    ]
  ];
}

pub good : {P : Type 0} (s : ContractTable P) → Good (table_of s)
good s = good_of (table_of s) s.ahead s.instruments_kept s.contracts_kept
