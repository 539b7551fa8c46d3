-- Which lines a contract table has.
use Rattle.std.proofs.Common.{◌≡◌, ℕ, zero, suc, ◌+◌, ◌-◌, ◌<◌, ◌≤◌, Bool, true, false, cond, ◌&&◌, ◌||◌, eqb, ltb, leb, List, [], ◌∷◌, ◌++◌, map, get_or, Some, None, sym, refl, ap, ◌∙◌, inl, inr, arith}
use mathlib.Core.Bool.{or-false}
use Rattle.std.proofs.lemmas.List.{get_or_append_left, get_or_past}
use Rattle.std.proofs.lemmas.Bool.{cases_Bool, cases_lt, eq-eqb, ne_eqb, ltb-true, ltb-false, or_from, or_cases, or_left, or_right, both_ways, and_left, and_right, and_parts, and_from, false≢true, cond-true, cond-false}
use Rattle.std.proofs.lemmas.Bool.Decides.{nat_tests}
use Rattle.std.specs.List.{range_with_len}
use Rattle.days.specs.Months.{month_of}
use Rattle.contracts.specs.Lines.{Line, day, rest, own, has_line, owns, timely, all_timely, lines}
use Rattle.contracts.specs.Rules.{is_numbered}
use Rattle.contracts.specs.Table.{Table, Instr, Listed, blank, nth, numbers, size}
use Rattle.contracts.specs.Views.{plus_instrument, plus_contract}
use Rattle.tariff.specs.Rules.{same_line, is_among, line_in}
use Rattle.tariff.proofs.Walks.{false_or}

or_shift : (a b c d : Bool) → d ≡ (b || c) → (a || d) ≡ ((a || b) || c)
or_shift true b c d e = refl
or_shift false b c d e = e

among_append : (l : Line) (xs ys : List Line) → is_among l (xs ++ ys) ≡ (is_among l xs || is_among l ys)
among_append l [] ys = refl
among_append l (x ∷ xs) ys = or_shift (same_line x l) (is_among l xs) (is_among l ys) _ (among_append l xs ys)

-- ---- days
days_among : (u v d n k : ℕ) → is_among (day u d) (map (day v) (range_with_len n k)) ≡ (eqb v u && (leb n d && ltb d (n + k)))
days_among u v d n zero = grind (arith, nat_tests)
days_among u v d n (suc k) = let i = days_among u v d (n + 1) k in grind (arith, nat_tests)

rest_no_day : (u m v : ℕ) (ds : List ℕ) → is_among (rest u m) (map (day v) ds) ≡ false
rest_no_day u m v [] = refl
rest_no_day u m v (d ∷ ds) = rest_no_day u m v ds

own_no_day : (j v : ℕ) (ds : List ℕ) → is_among (own j) (map (day v) ds) ≡ false
own_no_day j v [] = refl
own_no_day j v (d ∷ ds) = own_no_day j v ds

-- ---- an instrument's lines
day_timely : (t : Table) (u v d : ℕ) → is_among (day u d) (timely t v) ≡ (eqb v u && (ltb t.date d && leb d t.horizon))
day_timely t u v d =
    let a = among_append (day u d) (map (day v) (range_with_len (t.date + 1) (t.horizon - t.date))) (rest v (month_of t.date) ∷ rest v (month_of t.date + 1) ∷ []) in
    let b = days_among u v d (t.date + 1) (t.horizon - t.date) in
    a ∙ or-false _ ∙ b ∙ grind (arith, nat_tests)

rest_timely : (t : Table) (u v m : ℕ) → is_among (rest u m) (timely t v) ≡ (eqb v u && (eqb (month_of t.date) m || eqb (month_of t.date + 1) m))
rest_timely t u v m =
    let a = among_append (rest u m) (map (day v) (range_with_len (t.date + 1) (t.horizon - t.date))) (rest v (month_of t.date) ∷ rest v (month_of t.date + 1) ∷ []) in
    let b = rest_no_day u m v (range_with_len (t.date + 1) (t.horizon - t.date)) in
    a ∙ grind (arith, nat_tests)

own_timely : (t : Table) (j v : ℕ) → is_among (own j) (timely t v) ≡ false
own_timely t j v =
    among_append (own j) (map (day v) (range_with_len (t.date + 1) (t.horizon - t.date))) (rest v (month_of t.date) ∷ rest v (month_of t.date + 1) ∷ [])
    ∙ or-false _ ∙ own_no_day j v (range_with_len (t.date + 1) (t.horizon - t.date))

-- ---- all instruments' lines
-- what every instrument has, an instrument with that number has
numbered_and : (a b c d : Bool) → d ≡ (b && c) → ((a && c) || d) ≡ ((a || b) && c)
numbered_and true true true d e = refl
numbered_and true true false d e = e
numbered_and true false true d e = refl
numbered_and true false false d e = e
numbered_and false b c d e = e

pub is_numbered_more : (i : Instr) (is : List Instr) (u : ℕ) → is_numbered u (i ∷ is) ≡ (eqb i.number u || is_numbered u is)
is_numbered_more i is u = elim (cases_Bool (eqb i.number u)) [
  | inl a ↦ rw a
  | inr a ↦ rw a
]

-- a line that the instrument u has where `c` holds, and that no other has
among_timely : (t : Table) (l : Line) (u : ℕ) (c : Bool) → ((v : ℕ) → is_among l (timely t v) ≡ (eqb v u && c)) → (is : List Instr) → is_among l (all_timely t (map (λ (i : Instr). i.number) is)) ≡ (is_numbered u is && c)
among_timely t l u c each [] = refl
among_timely t l u c each (i ∷ is) =
    among_append l (timely t i.number) (all_timely t (map (λ (j : Instr). j.number) is))
    ∙ ap (λ (b : Bool). b || is_among l (all_timely t (map (λ (j : Instr). j.number) is))) (each i.number)
    ∙ numbered_and (eqb i.number u) (is_numbered u is) c _ (among_timely t l u c each is)
    ∙ ap (λ (b : Bool). b && c) (sym (is_numbered_more i is u))

own_all_timely : (t : Table) (j : ℕ) (us : List ℕ) → is_among (own j) (all_timely t us) ≡ false
own_all_timely t j [] = refl
own_all_timely t j (u ∷ us) = among_append (own j) (timely t u) (all_timely t us) ∙ or_from _ _ (own_timely t j u) (own_all_timely t j us)

-- ---- the contracts' own lines
day_owns : (t : Table) (u d i : ℕ) (cs : List Listed) → is_among (day u d) (owns t i cs) ≡ false
day_owns t u d i [] = refl
day_owns t u d i (c ∷ cs) = elim (cases_Bool (has_line t c)) [
  | inl a ↦ rw a (day_owns t u d (suc i) cs)
  | inr a ↦ rw a (day_owns t u d (suc i) cs)
]

rest_owns : (t : Table) (u m i : ℕ) (cs : List Listed) → is_among (rest u m) (owns t i cs) ≡ false
rest_owns t u m i [] = refl
rest_owns t u m i (c ∷ cs) = elim (cases_Bool (has_line t c)) [
  | inl a ↦ rw a (rest_owns t u m (suc i) cs)
  | inr a ↦ rw a (rest_owns t u m (suc i) cs)
]

own_before : (t : Table) (k i : ℕ) (cs : List Listed) → k < i → is_among (own k) (owns t i cs) ≡ false
own_before t k i [] h = refl
own_before t k i (c ∷ cs) h = elim (cases_Bool (has_line t c)) [
  | inl a ↦ rw a (or_from (eqb i k) _ (ne_eqb i k (λ e. omega arith)) (own_before t k (suc i) cs (omega arith)))
  | inr a ↦ rw a (own_before t k (suc i) cs (omega arith))
]

-- what lies past the end has no line
pub blank_none : (t : Table) → has_line t blank ≡ false
blank_none t = grind (arith, nat_tests)

own_owns : (t : Table) (k i j : ℕ) (cs : List Listed) → k ≡ i + j → is_among (own k) (owns t i cs) ≡ has_line t (get_or cs j blank)
own_owns t k i j [] e = sym (blank_none t)
own_owns t k i zero (c ∷ cs) e = elim (cases_Bool (has_line t c)) [
  | inl a ↦ rw a (or_left (eqb i k) _ (eq-eqb i k (omega arith)))
  | inr a ↦ rw a (own_before t k (suc i) cs (omega arith))
]
own_owns t k i (suc j) (c ∷ cs) e =
    let below = own_owns t k (suc i) j cs (omega arith) in
    elim (cases_Bool (has_line t c)) [
      | inl a ↦ rw a (false_or (eqb i k) _ (ne_eqb i k (λ x. omega arith)) ∙ below)
      | inr a ↦ rw a below
    ]

-- ---- all lines
pub lines_day : (t : Table) (u d : ℕ) → is_among (day u d) (lines t) ≡ (is_numbered u t.instruments && (ltb t.date d && leb d t.horizon))
lines_day t u d =
    among_append (day u d) (all_timely t (numbers t)) (owns t 0 t.contracts)
    ∙ ap (λ (b : Bool). is_among (day u d) (all_timely t (numbers t)) || b) (day_owns t u d 0 t.contracts) ∙ or-false _
    ∙ among_timely t (day u d) u (ltb t.date d && leb d t.horizon) (λ v. day_timely t u v d) t.instruments

pub lines_rest : (t : Table) (u m : ℕ) → is_among (rest u m) (lines t) ≡ (is_numbered u t.instruments && (eqb (month_of t.date) m || eqb (month_of t.date + 1) m))
lines_rest t u m =
    among_append (rest u m) (all_timely t (numbers t)) (owns t 0 t.contracts)
    ∙ ap (λ (b : Bool). is_among (rest u m) (all_timely t (numbers t)) || b) (rest_owns t u m 0 t.contracts) ∙ or-false _
    ∙ among_timely t (rest u m) u (eqb (month_of t.date) m || eqb (month_of t.date + 1) m) (λ v. rest_timely t u v m) t.instruments

pub lines_own : (t : Table) (j : ℕ) → is_among (own j) (lines t) ≡ has_line t (nth t j)
lines_own t j =
    among_append (own j) (all_timely t (numbers t)) (owns t 0 t.contracts)
    ∙ false_or _ _ (own_all_timely t j (numbers t)) ∙ own_owns t j 0 j t.contracts (omega arith)

-- ---- a table with one row more has all lines that it had
numbered_more : (is : List Instr) (i : Instr) (u : ℕ) → is_numbered u is ≡ true → is_numbered u (is ++ i ∷ []) ≡ true
numbered_more [] i u h = absurd (false≢true h)
numbered_more (j ∷ is) i u h = is_numbered_more j (is ++ i ∷ []) u ∙ elim (or_cases (eqb j.number u) (is_numbered u is) (sym (is_numbered_more j is u) ∙ h)) [
  | inl a ↦ or_left (eqb j.number u) _ a
  | inr a ↦ or_right (eqb j.number u) _ (numbered_more is i u a)
]

pub among_instrument : (t : Table) (i : Instr) (l : Line) → is_among l (lines t) ≡ true → is_among l (lines (plus_instrument t i)) ≡ true
among_instrument t i (day u d) h =
    let p = and_parts (is_numbered u t.instruments) _ (sym (lines_day t u d) ∙ h) in
    lines_day (plus_instrument t i) u d ∙ and_from _ _ (numbered_more t.instruments i u p.0) p.1
among_instrument t i (rest u m) h =
    let p = and_parts (is_numbered u t.instruments) _ (sym (lines_rest t u m) ∙ h) in
    lines_rest (plus_instrument t i) u m ∙ and_from _ _ (numbered_more t.instruments i u p.0) p.1
among_instrument t i (own j) h = lines_own (plus_instrument t i) j ∙ sym (lines_own t j) ∙ h

pub no_line : (t : Table) (j : ℕ) → size t ≤ j → has_line t (nth t j) ≡ true → ⊥
no_line t j h e = both_ways (has_line t (nth t j)) (ap (has_line t) (get_or_past t.contracts j blank h) ∙ blank_none t) e

pub among_contract : (t : Table) (c : Listed) (l : Line) → is_among l (lines t) ≡ true → is_among l (lines (plus_contract t c)) ≡ true
among_contract t c (day u d) h = lines_day (plus_contract t c) u d ∙ sym (lines_day t u d) ∙ h
among_contract t c (rest u m) h = lines_rest (plus_contract t c) u m ∙ sym (lines_rest t u m) ∙ h
among_contract t c (own j) h = elim (cases_lt j (size t)) [
  | inl a ↦ lines_own (plus_contract t c) j ∙ ap (has_line t) (get_or_append_left t.contracts (c ∷ []) blank j a) ∙ sym (lines_own t j) ∙ h
  | inr a ↦ absurd (no_line t j a (sym (lines_own t j) ∙ h))
]

-- ---- a line that is looked for
pub line_there : (t : Table) (l : Line) → is_among l (lines t) ≡ true → Some l ≡ line_in t l
line_there t l e = sym (cond-true (is_among l (lines t)) (Some l) None e)

pub line_absent : (t : Table) (l : Line) → is_among l (lines t) ≡ false → None ≡ line_in t l
line_absent t l e = sym (cond-false (is_among l (lines t)) (Some l) None e)

-- this month, or the next
pub month_named : (m k : ℕ) → leb k 1 ≡ (eqb m (m + k) || eqb (m + 1) (m + k))
month_named m k = grind (arith, nat_tests)

module _ (t : Table) (u k : ℕ) where
  pub rest_there : (n : ℕ) → is_numbered u t.instruments ≡ true → leb k 1 ≡ true → n ≡ month_of t.date + k → Some (rest u n) ≡ line_in t (rest u (month_of t.date + k))
  rest_there n listed near e = ap (λ (m : ℕ). Some (rest u m)) e ∙ line_there t (rest u (month_of t.date + k)) (lines_rest t u (month_of t.date + k) ∙ and_from _ _ listed (sym (month_named (month_of t.date) k) ∙ near))

  pub rest_unlisted : is_numbered u t.instruments ≡ false → None ≡ line_in t (rest u (month_of t.date + k))
  rest_unlisted e = line_absent t (rest u (month_of t.date + k)) (lines_rest t u (month_of t.date + k) ∙ and_left _ _ e)

  pub rest_far : leb k 1 ≡ false → None ≡ line_in t (rest u (month_of t.date + k))
  rest_far e = line_absent t (rest u (month_of t.date + k)) (lines_rest t u (month_of t.date + k) ∙ and_right _ _ (sym (month_named (month_of t.date) k) ∙ e))

-- the own line of the contract at a place
module _ (t : Table) (p : ℕ) where
  pub own_past : size t ≤ p → None ≡ line_in t (own p)
  own_past h = line_absent t (own p) (lines_own t p ∙ ap (has_line t) (get_or_past t.contracts p blank h) ∙ blank_none t)

  pub own_by : (c : Listed) → c ≡ nth t p → line_in t (own p) ≡ cond (has_line t c) (Some (own p)) None
  own_by c e = ap (λ (b : Bool). cond b (Some (own p)) None) (lines_own t p ∙ ap (has_line t) (sym e))

-- ---- places
pub place_some : (p n i : ℕ) → Some i ≡ cond (ltb p n) (Some p) None → (p < n) × (i ≡ p)
place_some p n i e = elim (cases_Bool (ltb p n)) [
  | inl a ↦ (let v = cond-true (ltb p n) (Some p) None a in (ltb-true p n a, cc))
  | inr a ↦ (let v = cond-false (ltb p n) (Some p) None a in let z : ◌≡◌ {A = ℕ} 0 1 = cc in absurd (omega arith))
]

pub place_none : (p n : ℕ) → None ≡ cond (ltb p n) (Some p) None → n ≤ p
place_none p n e = elim (cases_Bool (ltb p n)) [
  | inl a ↦ (let v = cond-true (ltb p n) (Some p) None a in let z : ◌≡◌ {A = ℕ} 0 1 = cc in absurd (omega arith))
  | inr a ↦ ltb-false p n a
]
