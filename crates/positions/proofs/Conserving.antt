-- Netting conserves what is delivered.
use Rattle.std.proofs.Common.{◌≡◌, ℕ, zero, suc, ◌+◌, ◌<◌, ◌≤◌, true, false, cond, ◌&&◌, eqb, List, [], ◌∷◌, ℤ, pos, negsuc, ◌+ℤ◌, ◌*ℤ◌, neg_ℤ, nat_abs, sym, refl, ap, ◌∙◌, subst, inl, inr, arith}
use lib.IntN.{+ℤ_idr}
use borrow.Author.Differences.{ints}
use Rattle.positions.proofs.Ring.{*ℤ-over, *ℤ-over-left, *ℤ-minus}
use Rattle.std.proofs.lemmas.Bool.{cases_Bool, and_parts, and_from, and_left, and_right, or_cases, or_left, or_right, or_from, or_parts, ne_eqb, eqb-true, eqb-false, cond-true, cond-false, both_ways, false≢true}
use Rattle.positions.specs.Steps.{Distinct}
use Rattle.positions.specs.Net.{Places, Relation, opposite, all_opposite, arbitrage, smallest, towards, is_in, net, net_all}
use Rattle.positions.specs.Sums.{sum_to}
use Rattle.positions.proofs.Signs.{Apart, opposite_true}

abbrev pub weight : (ℕ → ℕ) → List ℕ → ℕ
weight w [] = 0
weight w (o ∷ os) = w o + weight w os

abbrev pub Below : ℕ → List ℕ → Type 0
Below n [] = Unit {0}
Below n (x ∷ xs) = (x < n) × Below n xs

-- among n lines, of which the line at i delivers w i times: the first delivers just where one of the others does, and once
pub record Whole (n : ℕ) (w : ℕ → ℕ) (r : Relation) : Type 0 where
  pub within : Below n (r.first ∷ r.others)
  pub apart : Distinct (r.first ∷ r.others)
  pub union : w r.first ≡ weight w r.others

abbrev pub AllWhole : ℕ → (ℕ → ℕ) → List Relation → Type 0
AllWhole n w [] = Unit {0}
AllWhole n w (r ∷ rs) = Whole n w r × AllWhole n w rs

-- ---- sums over the lines
sum_to_same : (f g : ℕ → ℤ) (n : ℕ) → ((i : ℕ) → f i ≡ g i) → sum_to f n ≡ sum_to g n
sum_to_same f g zero h = refl
sum_to_same f g (suc n) h = let e = h n in let i = sum_to_same f g n h in omega (arith, ints)

-- p with d more at j
abbrev bump : Places → ℕ → ℤ → Places
bump p j d i = p i +ℤ cond (eqb i j) d (pos 0)

sum_to_past : (w : ℕ → ℕ) (p : Places) (j : ℕ) (d : ℤ) (n : ℕ) → n ≤ j → sum_to (λ i. pos (w i) *ℤ bump p j d i) n ≡ sum_to (λ i. pos (w i) *ℤ p i) n
sum_to_past w p j d zero h = refl
sum_to_past w p j d (suc n) h =
    let e : bump p j d n ≡ p n = ap (λ x. p n +ℤ x) (cond-false (eqb n j) d (pos 0) (ne_eqb n j (λ x. omega arith))) ∙ +ℤ_idr (p n) in
    ap (λ x. x +ℤ pos (w n) *ℤ bump p j d n) (sum_to_past w p j d n (omega arith)) ∙ ap (λ x. sum_to (λ i. pos (w i) *ℤ p i) n +ℤ pos (w n) *ℤ x) e

sum_to_bump : (w : ℕ → ℕ) (p : Places) (j : ℕ) (d : ℤ) (n : ℕ) → j < n → sum_to (λ i. pos (w i) *ℤ bump p j d i) n ≡ sum_to (λ i. pos (w i) *ℤ p i) n +ℤ pos (w j) *ℤ d
sum_to_bump w p j d zero h = absurd (omega arith)
sum_to_bump w p j d (suc n) h = elim (cases_Bool (eqb n j)) [
  | inl t ↦ (
      let e = eqb-true n j t in
      let v : bump p j d n ≡ p n +ℤ d = ap (λ x. p n +ℤ x) (cond-true (eqb n j) d (pos 0) t) in
      let a = sum_to_past w p j d n (omega arith) in
      let b : pos (w n) *ℤ bump p j d n ≡ pos (w n) *ℤ p n +ℤ pos (w n) *ℤ d = ap (λ x. pos (w n) *ℤ x) v ∙ *ℤ-over (pos (w n)) (p n) d in
      let c : pos (w j) *ℤ d ≡ pos (w n) *ℤ d = ap (λ x. pos (w x) *ℤ d) (sym e) in
      omega (arith, ints))
  | inr t ↦ (
      let e = eqb-false n j t in
      let l : j < n = omega arith in
      let v : bump p j d n ≡ p n = ap (λ x. p n +ℤ x) (cond-false (eqb n j) d (pos 0) t) ∙ +ℤ_idr (p n) in
      let a = sum_to_bump w p j d n l in
      let b : pos (w n) *ℤ bump p j d n ≡ pos (w n) *ℤ p n = ap (λ x. pos (w n) *ℤ x) v in
      omega (arith, ints))
]

abbrev bumps : Places → List ℕ → ℤ → Places
bumps p [] d = p
bumps p (o ∷ os) d = bump (bumps p os d) o d

sum_to_bumps : (w : ℕ → ℕ) (p : Places) (os : List ℕ) (d : ℤ) (n : ℕ) → Below n os → sum_to (λ i. pos (w i) *ℤ bumps p os d i) n ≡ sum_to (λ i. pos (w i) *ℤ p i) n +ℤ pos (weight w os) *ℤ d
sum_to_bumps w p [] d n h = omega (arith, ints)
sum_to_bumps w p (o ∷ os) d n h =
    let a = sum_to_bump w (bumps p os d) o d n h.0 in
    let b = sum_to_bumps w p os d n h.1 in
    let c = *ℤ-over-left (pos (w o)) (pos (weight w os)) d in
    omega (arith, ints)

bumps_out : (p : Places) (os : List ℕ) (d : ℤ) (i : ℕ) → is_in i os ≡ false → bumps p os d i ≡ p i
bumps_out p [] d i e = refl
bumps_out p (o ∷ os) d i e =
    let t = or_parts (eqb i o) (is_in i os) e in
    ap (λ x. bumps p os d i +ℤ x) (cond-false (eqb i o) d (pos 0) t.0) ∙ +ℤ_idr (bumps p os d i) ∙ bumps_out p os d i t.1

bumps_in : (p : Places) (os : List ℕ) (d : ℤ) (i : ℕ) → Distinct os → is_in i os ≡ true → bumps p os d i ≡ p i +ℤ d
bumps_in p [] d i u e = absurd (false≢true e)
bumps_in p (o ∷ os) d i u e = elim (cases_Bool (eqb i o)) [
  | inl t ↦ ap (λ x. bumps p os d i +ℤ x) (cond-true (eqb i o) d (pos 0) t) ∙ ap (λ x. x +ℤ d) (bumps_out p os d i (subst (λ x. is_in x os ≡ false) (sym (eqb-true i o t)) u.0))
  | inr t ↦ ap (λ x. bumps p os d i +ℤ x) (cond-false (eqb i o) d (pos 0) t) ∙ +ℤ_idr (bumps p os d i) ∙ bumps_in p os d i u.1 (elim (or_cases (eqb i o) (is_in i os) e) [ inl y ↦ absurd (both_ways (eqb i o) t y) | inr y ↦ y ])
]

-- ---- a step is one change at the first, and the opposite one at each of the others
abbrev delta : ℕ → ℤ → ℤ
delta k (pos n) = neg_ℤ (pos k)
delta k (negsuc n) = pos k

towards_is : (k : ℕ) (a : ℤ) → k ≤ nat_abs a → towards k a ≡ a +ℤ delta k a
towards_is k (pos n) h = omega (arith, ints)
towards_is k (negsuc n) h = omega (arith, ints)

delta_opposite : (k : ℕ) (a b : ℤ) → Apart a b → delta k b ≡ neg_ℤ (delta k a)
delta_opposite k (pos m) (pos n) h = absurd (elim h [ inl t ↦ omega (arith, ints) | inr t ↦ omega (arith, ints) ])
delta_opposite k (pos m) (negsuc n) h = omega (arith, ints)
delta_opposite k (negsuc m) (pos n) h = omega (arith, ints)
delta_opposite k (negsuc m) (negsuc n) h = absurd (elim h [ inl t ↦ omega (arith, ints) | inr t ↦ omega (arith, ints) ])

smallest_others : (p : Places) (f : ℕ) (os : List ℕ) (i : ℕ) → is_in i os ≡ true → smallest p f os ≤ nat_abs (p i)
smallest_others p f [] i e = absurd (false≢true e)
smallest_others p f (o ∷ os) i e = elim (or_cases (eqb i o) (is_in i os) e) [
  | inl t ↦ (let h : nat_abs (p o) ≡ nat_abs (p i) = ap (λ x. nat_abs (p x)) (sym (eqb-true i o t)) in omega arith)
  | inr t ↦ (let h = smallest_others p f os i t in omega arith)
]

smallest_first : (p : Places) (f : ℕ) (os : List ℕ) → smallest p f os ≤ nat_abs (p f)
smallest_first p f [] = omega arith
smallest_first p f (o ∷ os) = let h = smallest_first p f os in omega arith

opposite_in : (p : Places) (a : ℤ) (os : List ℕ) (i : ℕ) → all_opposite p a os ≡ true → is_in i os ≡ true → Apart a (p i)
opposite_in p a [] i t e = absurd (false≢true e)
opposite_in p a (o ∷ os) i t e =
    let h = and_parts (opposite a (p o)) (all_opposite p a os) t in
    elim (or_cases (eqb i o) (is_in i os) e) [
      | inl s ↦ subst (λ x. Apart a (p x)) (sym (eqb-true i o s)) (opposite_true a (p o) h.0)
      | inr s ↦ opposite_in p a os i h.1 s
    ]

module _ (r : Relation) (p : Places) (was : arbitrage r p ≡ true) (apart : Distinct (r.first ∷ r.others)) where
  net_is : (i : ℕ) → net r p i ≡ bump (bumps p r.others (neg_ℤ (delta (smallest p r.first r.others) (p r.first)))) r.first (delta (smallest p r.first r.others) (p r.first)) i
  net_is i =
      let f = r.first in
      let os = r.others in
      let k = smallest p f os in
      let d = delta k (p f) in
      let here : is_in i (f ∷ os) ≡ true → net r p i ≡ towards k (p i) = λ e. cond-true (arbitrage r p && is_in i (f ∷ os)) (towards k (p i)) (p i) (and_from (arbitrage r p) (is_in i (f ∷ os)) was e) in
      elim (cases_Bool (eqb i f)) [
        | inl t ↦ (
            let e = eqb-true i f t in
            let off : is_in i os ≡ false = subst (λ x. is_in x os ≡ false) (sym e) apart.0 in
            let right : bump (bumps p os (neg_ℤ d)) f d i ≡ p i +ℤ d = ap (λ x. bumps p os (neg_ℤ d) i +ℤ x) (cond-true (eqb i f) d (pos 0) t) ∙ ap (λ x. x +ℤ d) (bumps_out p os (neg_ℤ d) i off) in
            let left : towards k (p i) ≡ p i +ℤ d = subst (λ x. towards k (p x) ≡ p x +ℤ d) (sym e) (towards_is k (p f) (smallest_first p f os)) in
            here (or_left (eqb i f) (is_in i os) t) ∙ left ∙ sym right)
        | inr t ↦ elim (cases_Bool (is_in i os)) [
          | inl s ↦ (
              let right : bump (bumps p os (neg_ℤ d)) f d i ≡ p i +ℤ neg_ℤ d = ap (λ x. bumps p os (neg_ℤ d) i +ℤ x) (cond-false (eqb i f) d (pos 0) t) ∙ +ℤ_idr _ ∙ bumps_in p os (neg_ℤ d) i apart.1 s in
              let left : towards k (p i) ≡ p i +ℤ neg_ℤ d = towards_is k (p i) (smallest_others p f os i s) ∙ ap (λ x. p i +ℤ x) (delta_opposite k (p f) (p i) (opposite_in p (p f) os i was s)) in
              here (or_right (eqb i f) (is_in i os) s) ∙ left ∙ sym right)
          | inr s ↦ (
              let right : bump (bumps p os (neg_ℤ d)) f d i ≡ p i = ap (λ x. bumps p os (neg_ℤ d) i +ℤ x) (cond-false (eqb i f) d (pos 0) t) ∙ +ℤ_idr _ ∙ bumps_out p os (neg_ℤ d) i s in
              cond-false (arbitrage r p && is_in i (f ∷ os)) (towards k (p i)) (p i) (and_right (arbitrage r p) (is_in i (f ∷ os)) (or_from (eqb i f) (is_in i os) t s)) ∙ sym right)
        ]
      ]

pub net_conserves : (n : ℕ) (w : ℕ → ℕ) (r : Relation) → Whole n w r → (p : Places) → sum_to (λ i. pos (w i) *ℤ net r p i) n ≡ sum_to (λ i. pos (w i) *ℤ p i) n
net_conserves n w r h p = elim (cases_Bool (arbitrage r p)) [
  | inr e ↦ sum_to_same (λ i. pos (w i) *ℤ net r p i) (λ i. pos (w i) *ℤ p i) n (λ i. ap (λ x. pos (w i) *ℤ x) (cond-false (arbitrage r p && is_in i (r.first ∷ r.others)) _ (p i) (and_left (arbitrage r p) (is_in i (r.first ∷ r.others)) e)))
  | inl e ↦ (
      let f = r.first in
      let os = r.others in
      let d = delta (smallest p f os) (p f) in
      let q = bumps p os (neg_ℤ d) in
      let a : sum_to (λ i. pos (w i) *ℤ net r p i) n ≡ sum_to (λ i. pos (w i) *ℤ bump q f d i) n = sum_to_same _ _ n (λ i. ap (λ x. pos (w i) *ℤ x) (net_is r p e h.apart i)) in
      let b = sum_to_bump w q f d n h.within.0 in
      let c = sum_to_bumps w p os (neg_ℤ d) n h.within.1 in
      let g : pos (w f) *ℤ d ≡ pos (weight w os) *ℤ d = ap (λ x. pos x *ℤ d) h.union in
      let m = *ℤ-minus (pos (weight w os)) d in
      a ∙ b ∙ omega (arith, ints))
]

pub net_all_conserves : (n : ℕ) (w : ℕ → ℕ) (rs : List Relation) → AllWhole n w rs → (p : Places) → sum_to (λ i. pos (w i) *ℤ net_all rs p i) n ≡ sum_to (λ i. pos (w i) *ℤ p i) n
net_all_conserves n w [] h p = refl
net_all_conserves n w (r ∷ rs) h p = net_all_conserves n w rs h.1 (net r p) ∙ net_conserves n w r h.0 p
