-- The months tile the days.
use Rattle.std.proofs.Common.{◌≡◌, ℕ, zero, suc, ◌+◌, ◌-◌, ◌*◌, ◌/◌, ◌%◌, ◌<◌, ◌≤◌, Bool, true, ◌&&◌, ltb, leb, List, [], ◌∷◌, length, get_or, take, drop, sum, sym, refl, ap, ◌∙◌, subst, inl, inr, add-one, arith}
use Rattle.std.proofs.lemmas.List.{at_drop_more, at_drop_all}
use Rattle.std.proofs.lemmas.List.Sums.{sum_by-cons, sum_by-take-le}
use Rattle.std.proofs.lemmas.Bool.{cases_lt, cond-true, cond-false, lt-ltb, le-ltb, and_parts, leb-true}
use Rattle.days.specs.Months.{lengths, month_from, start_from, month_of, month_length, month_start, MonthsTile}

here : (n : ℕ) (ns : List ℕ) (r : ℕ) → r < n → month_from (n ∷ ns) r ≡ 0
unfolding month_from
here n ns r h = cond-true (ltb r n) 0 _ (lt-ltb r n h)

later : (n : ℕ) (ns : List ℕ) (r : ℕ) → n ≤ r → month_from (n ∷ ns) r ≡ suc (month_from ns (r - n))
unfolding month_from
later n ns r h = cond-false (ltb r n) 0 _ (le-ltb r n h)

-- the month of day r of some months holds it
pub record Holds (ns : List ℕ) (r k : ℕ) : Type 0 where
  pub few : k < length ns
  pub from : start_from ns k ≤ r
  pub to : r < start_from ns k + get_or ns k 0

held : (ns : List ℕ) (r : ℕ) → r < sum ns → Holds ns r (month_from ns r)
unfolding start_from
held [] r h = absurd (omega arith)
held (n ∷ ns) r h = elim (cases_lt r n) [
  | inl a ↦ subst (Holds (n ∷ ns) r) (sym (here n ns r a)) (record { few = omega arith; from = omega arith; to = omega arith })
  | inr a ↦ (
      let i = held ns (r - n) (omega (arith, sum_by-cons (λ x. x) n ns)) in
      let f = i.few in
      let x = i.from in
      let y = i.to in
      subst (Holds (n ∷ ns) r) (sym (later n ns r a)) (record { few = omega arith; from = omega arith; to = omega arith }))
]

start_next : (ns : List ℕ) (k : ℕ) → k < length ns → start_from ns (suc k) ≡ start_from ns k + get_or ns k 0
unfolding start_from
start_next [] k h = absurd (omega arith)
start_next (n ∷ ns) zero h = omega arith
start_next (n ∷ ns) (suc k) h = let i = start_next ns k (omega arith) in omega arith

-- ---- over the four years
four_years : (sum lengths ≡ 1461) × (length lengths ≡ 48) × (start_from lengths 0 ≡ 0) × (start_from lengths 47 + 31 ≡ 1461)
unfolding lengths start_from
four_years = (refl, refl, refl, refl)

abbrev usual_all : List ℕ → Bool
usual_all [] = true
usual_all (n ∷ ns) = (leb 28 n && leb n 31) && usual_all ns

-- a month has from 28 to 31 days
usual : (ns : List ℕ) (k : ℕ) → usual_all ns ≡ true → k < length ns → (28 ≤ get_or ns k 0) × (get_or ns k 0 ≤ 31)
usual [] k a h = absurd (omega arith)
usual (n ∷ ns) zero a h = let p = and_parts _ _ a in let q = and_parts _ _ p.0 in (leb-true 28 n q.0, leb-true n 31 q.1)
usual (n ∷ ns) (suc k) a h = usual ns k (and_parts (leb 28 n && leb n 31) (usual_all ns) a).1 (omega arith)

pub length_usual : (m : ℕ) → (28 ≤ month_length m) × (month_length m ≤ 31)
unfolding month_length lengths
length_usual m = usual lengths (m % 48) refl (omega arith)

length_at : (k : ℕ) → k < 48 → month_length k ≡ get_or lengths k 0
unfolding month_length
length_at k h = let e : k % 48 ≡ k = omega arith in ap (λ i. get_or lengths i 0) e

-- the months from i on: day `left` of them lies in the first, or in a later one
pub from_here : (i left : ℕ) → i < 48 → left < get_or lengths i 0 → month_from (drop i lengths) left ≡ 0
from_here i left h l =
    let f = four_years in
    at_drop_more (λ ns. month_from ns left) lengths i 0 (omega arith) ∙ here (get_or lengths i 0) (drop (i + 1) lengths) left l

pub from_later : (i left : ℕ) → i < 48 → get_or lengths i 0 ≤ left → month_from (drop i lengths) left ≡ suc (month_from (drop (i + 1) lengths) (left - get_or lengths i 0))
from_later i left h l =
    let f = four_years in
    at_drop_more (λ ns. month_from ns left) lengths i 0 (omega arith) ∙ later (get_or lengths i 0) (drop (i + 1) lengths) left l

pub from_none : (i left : ℕ) → 48 ≤ i → month_from (drop i lengths) left ≡ 0
unfolding month_from
from_none i left h = let f = four_years in at_drop_all (λ ns. month_from ns left) lengths i (omega arith)

-- the first day of a month is the sum of the months before
pub start_sum : (ns : List ℕ) (k : ℕ) → start_from ns k ≡ sum (take k ns)
unfolding start_from
start_sum ns zero = refl
start_sum [] (suc k) = refl
start_sum (n ∷ ns) (suc k) = omega (arith, start_sum ns k, sum_by-cons (λ x. x) n (take k ns))

pub start_small : (k : ℕ) → start_from lengths k ≤ 1461
start_small k = let f = four_years in omega (arith, start_sum lengths k, sum_by-take-le (λ x. x) lengths k)

start_more : (k : ℕ) → k < 48 → start_from lengths (k + 1) ≡ start_from lengths k + month_length k
start_more k h =
    let f = four_years in
    let e = length_at k h in
    let s = start_next lengths k (omega arith) in
    ap (start_from lengths) (add-one k) ∙ s ∙ ap (λ n. start_from lengths k + n) (sym e)

-- ---- all months
length_cycle : (m n : ℕ) → m % 48 ≡ n % 48 → month_length m ≡ month_length n
unfolding month_length
length_cycle m n e = ap (λ i. get_or lengths i 0) e

last_length : month_length 47 ≡ 31
unfolding month_length lengths
last_length = refl

pub month_next : (m : ℕ) → month_start (m + 1) ≡ month_start m + month_length m
unfolding month_start
month_next m = elim (cases_lt (m % 48) 47) [
  | inl a ↦ (
      let q : (m + 1) / 48 ≡ m / 48 = omega arith in
      let r : (m + 1) % 48 ≡ m % 48 + 1 = omega arith in
      let s = start_more (m % 48) (omega arith) in
      let l = length_cycle (m % 48) m (omega arith) in
      let e = ap (start_from lengths) r in
      omega arith)
  | inr a ↦ (
      let f = four_years in
      let q : (m + 1) / 48 ≡ m / 48 + 1 = omega arith in
      let r : (m + 1) % 48 ≡ 0 = omega arith in
      let t : m % 48 ≡ 47 = omega arith in
      let l = length_cycle m 47 t in
      let k = last_length in
      let e = ap (start_from lengths) r in
      let g = ap (start_from lengths) t in
      omega arith)
]

in_cycle : (d : ℕ) → Holds lengths (d % 1461) (month_from lengths (d % 1461))
in_cycle d = let f = four_years in held lengths (d % 1461) (omega arith)

parts : (d : ℕ) → (month_start (month_of d) ≤ d) × (d < month_start (month_of d) + month_length (month_of d))
unfolding month_start month_of
parts d =
    let f = four_years in
    let k : ℕ = month_from lengths (d % 1461) in
    let h = in_cycle d in
    let few = h.few in
    let from = h.from in
    let to = h.to in
    let q : (48 * (d / 1461) + k) / 48 ≡ d / 1461 = omega arith in
    let r : (48 * (d / 1461) + k) % 48 ≡ k = omega arith in
    let s = ap (start_from lengths) r in
    let l = length_cycle (48 * (d / 1461) + k) k (omega arith) ∙ length_at k (omega arith) in
    omega arith

pub month_within : (d : ℕ) → (month_start (month_of d) ≤ d) × (d < month_start (month_of d + 1))
month_within d =
    let n = month_next (month_of d) in
    let p = parts d in
    omega arith

start_rises : (m k : ℕ) → month_start m + k ≤ month_start (m + k)
start_rises m zero = let e = ap month_start (zero_right m) in omega arith
  where
    zero_right : (m : ℕ) → m + 0 ≡ m
    zero_right m = omega arith
start_rises m (suc k) =
    let i = start_rises m k in
    let n = month_next (m + k) in
    let u = length_usual (m + k) in
    let a : m + suc k ≡ (m + k) + 1 = omega arith in
    let e = ap month_start a in
    omega arith

pub start_mono : (m n : ℕ) → m ≤ n → month_start m + (n - m) ≤ month_start n
start_mono m n h =
    let a : m + (n - m) ≡ n = omega arith in
    let r = start_rises m (n - m) in
    let e = ap month_start a in
    omega arith

pub month_only : (d m : ℕ) → month_start m ≤ d → d < month_start (m + 1) → month_of d ≡ m
month_only d m h k =
    let w = month_within d in
    elim (cases_lt (month_of d) m) [
      | inl a ↦ (let s = start_mono (month_of d + 1) m (omega arith) in absurd (omega arith))
      | inr a ↦ elim (cases_lt m (month_of d)) [
        | inl b ↦ (let s = start_mono (m + 1) (month_of d) (omega arith) in absurd (omega arith))
        | inr b ↦ omega arith
      ]
    ]

pub month_rises : (d e : ℕ) → d ≤ e → month_of d ≤ month_of e
month_rises d e h = elim (cases_lt (month_of e) (month_of d)) [
  | inl a ↦ (let s = start_mono (month_of e + 1) (month_of d) (omega arith) in let v = month_within d in let w = month_within e in absurd (omega arith))
  | inr a ↦ a
]

pub months_tile : MonthsTile
months_tile = record { next = month_next; within = month_within; only = month_only; rises = month_rises }

-- ---- to the end of 2099
pub last_start : month_start 1200 ≡ 36525
unfolding month_start lengths start_from
last_start = refl

pub months_few : (d : ℕ) → d < 36525 → month_of d < 1200
months_few d h =
    let w = month_within d in
    let l = last_start in
    elim (cases_lt (month_of d) 1200) [
      | inl a ↦ a
      | inr a ↦ (let s = start_mono 1200 (month_of d) a in absurd (omega arith))
    ]

-- the last day of month m, counted to the end of 2099 and past it
pub last_within : (m : ℕ) → m < 1200 → (1 ≤ month_start (m + 1)) × (month_start (m + 1) - 1 < 36525)
last_within m h =
    let n = month_next m in
    let u = length_usual m in
    let s = start_mono (m + 1) 1200 (omega arith) in
    let l = last_start in
    (omega arith, omega arith)

pub last_past : (m : ℕ) → 1200 ≤ m → 36525 ≤ month_start (m + 1) - 1
last_past m h =
    let s = start_mono 1200 (m + 1) (omega arith) in
    let l = last_start in
    omega arith
