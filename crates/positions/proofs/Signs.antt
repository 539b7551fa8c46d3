-- Netting moves each position towards zero, and leaves no arbitrage.
use Rattle.std.proofs.Common.{◌≡◌, ℕ, suc, ◌-◌, true, false, ◌&&◌, ◌||◌, eqb, ◌⊎◌, List, [], ◌∷◌, ℤ, pos, negsuc, neg_ℤ, nat_abs, ◌<ℤ◌, sym, refl, ap, ◌∙◌, inl, inr, arith}
use lib.Signed.{lt_z}
use borrow.Author.Differences.{ints}
use Rattle.std.proofs.lemmas.Bool.{cases_Bool, cond_both, and_parts, and_from, or_cases, or_left, or_right, eq-eqb, eqb-true, cond-true, both_ways, cases_lt, false≢true}
use Rattle.std.proofs.lemmas.Int.{by_lt_z}
use Rattle.positions.specs.Net.{Places, Relation, opposite, all_opposite, arbitrage, smallest, towards, is_in, net, net_all, Nearer, NoArbitrage}

-- each relation has others
abbrev pub Proper : List Relation → Type 0
Proper [] = Unit {0}
Proper (r ∷ rs) = ((r.others ≡ []) → ⊥) × Proper rs

-- ---- nearer to zero
pub nearer_refl : (a : ℤ) → Nearer a a
nearer_refl a = record { above = λ h. (h, omega (arith, ints)); below = λ h. (h, omega (arith, ints)) }

pub nearer_trans : (a b c : ℤ) → Nearer a b → Nearer b c → Nearer a c
nearer_trans a b c h k = record {
  above = λ g. ((k.above (h.above g).0).0, let x = (h.above g).1 in let y = (k.above (h.above g).0).1 in omega (arith, ints));
  below = λ g. ((k.below (h.below g).0).0, let x = (h.below g).1 in let y = (k.below (h.below g).0).1 in omega (arith, ints));
}

pub nearer_towards : (k : ℕ) (a : ℤ) → Nearer a (towards k a)
nearer_towards k (pos n) = record { above = λ h. (omega (arith, ints), omega (arith, ints)); below = λ h. (omega (arith, ints), omega (arith, ints)) }
nearer_towards k (negsuc n) = record { above = λ h. (omega (arith, ints), omega (arith, ints)); below = λ h. (omega (arith, ints), omega (arith, ints)) }

pub net_nearer : (r : Relation) (p : Places) (i : ℕ) → Nearer (p i) (net r p i)
net_nearer r p i =
    cond_both (arbitrage r p && is_in i (r.first ∷ r.others)) (towards (smallest p r.first r.others) (p i)) (p i) (λ x. Nearer (p i) x) (λ e. nearer_towards _ (p i)) (λ e. nearer_refl (p i))

pub net_all_nearer : (rs : List Relation) (p : Places) (i : ℕ) → Nearer (p i) (net_all rs p i)
net_all_nearer [] p i = nearer_refl (p i)
net_all_nearer (r ∷ rs) p i = nearer_trans (p i) (net r p i) _ (net_nearer r p i) (net_all_nearer rs (net r p) i)

-- ---- opposite signs were opposite before

abbrev pub Apart : ℤ → ℤ → Type 0
Apart a b = ((pos 0 <ℤ a) × (b <ℤ pos 0)) ⊎ ((a <ℤ pos 0) × (pos 0 <ℤ b))

pub opposite_true : (a b : ℤ) → opposite a b ≡ true → Apart a b
opposite_true a b e = elim (or_cases (lt_z (pos 0) a && lt_z b (pos 0)) (lt_z a (pos 0) && lt_z (pos 0) b) e) [
  | inl t ↦ inl (let h = and_parts (lt_z (pos 0) a) (lt_z b (pos 0)) t in omega (arith, ints))
  | inr t ↦ inr (let h = and_parts (lt_z a (pos 0)) (lt_z (pos 0) b) t in omega (arith, ints))
]

pub opposite_from : (a b : ℤ) → Apart a b → opposite a b ≡ true
opposite_from a b (inl h) = or_left (lt_z (pos 0) a && lt_z b (pos 0)) (lt_z a (pos 0) && lt_z (pos 0) b) (and_from (lt_z (pos 0) a) (lt_z b (pos 0)) (sym (omega (arith, ints))) (sym (omega (arith, ints))))
opposite_from a b (inr h) = or_right (lt_z (pos 0) a && lt_z b (pos 0)) (lt_z a (pos 0) && lt_z (pos 0) b) (and_from (lt_z a (pos 0)) (lt_z (pos 0) b) (sym (omega (arith, ints))) (sym (omega (arith, ints))))

above_before : (a x : ℤ) → Nearer a x → pos 0 <ℤ x → pos 0 <ℤ a
above_before a x h g = by_lt_z (pos 0) a (λ l. l) (λ l. let z = (h.below l).0 in omega (arith, ints))

below_before : (a x : ℤ) → Nearer a x → x <ℤ pos 0 → a <ℤ pos 0
below_before a x h g = by_lt_z a (pos 0) (λ l. l) (λ l. let z = (h.above l).0 in omega (arith, ints))

pub opposite_before : (a b x y : ℤ) → Nearer a x → Nearer b y → opposite x y ≡ true → opposite a b ≡ true
opposite_before a b x y h k e = opposite_from a b (elim (opposite_true x y e) [
  | inl t ↦ inl (above_before a x h t.0, below_before b y k t.1)
  | inr t ↦ inr (below_before a x h t.0, above_before b y k t.1)
])

all_opposite_before : (p q : Places) (a x : ℤ) (os : List ℕ) → ((i : ℕ) → Nearer (p i) (q i)) → Nearer a x → all_opposite q x os ≡ true → all_opposite p a os ≡ true
all_opposite_before p q a x [] near h e = refl
all_opposite_before p q a x (o ∷ os) near h e =
    let t = and_parts (opposite x (q o)) (all_opposite q x os) e in
    and_from (opposite a (p o)) (all_opposite p a os) (opposite_before a (p o) x (q o) h (near o) t.0) (all_opposite_before p q a x os near h t.1)

-- an arbitrage that is not there before does not come
pub stays_away : (r : Relation) (p q : Places) → ((i : ℕ) → Nearer (p i) (q i)) → arbitrage r p ≡ false → arbitrage r q ≡ false
stays_away r p q near e = elim (cases_Bool (arbitrage r q)) [
  | inl t ↦ absurd (both_ways (arbitrage r p) e (all_opposite_before p q (p r.first) (q r.first) r.others near (near r.first) t))
  | inr f ↦ f
]

-- ---- after a step its arbitrage is gone
-- the smallest size is that of the first or of one of the others
at_smallest : (p : Places) (f : ℕ) (os : List ℕ) → (i : ℕ) × (is_in i (f ∷ os) ≡ true) × (nat_abs (p i) ≡ smallest p f os)
at_smallest p f [] = (f, or_left (eqb f f) false (eq-eqb f f refl), refl)
at_smallest p f (o ∷ os) =
    let ih = at_smallest p f os in
    elim (cases_lt (nat_abs (p o)) (smallest p f os)) [
      | inl l ↦ (o, or_right (eqb o f) (eqb o o || is_in o os) (or_left (eqb o o) (is_in o os) (eq-eqb o o refl)), omega arith)
      | inr l ↦ (ih.0, in_more ih.0 f o os ih.1, omega (arith, ih.2))
    ]
  where
    in_more : (i f o : ℕ) (os : List ℕ) → is_in i (f ∷ os) ≡ true → is_in i (f ∷ o ∷ os) ≡ true
    in_more i f o os e = elim (or_cases (eqb i f) (is_in i os) e) [
      | inl t ↦ or_left (eqb i f) (eqb i o || is_in i os) t
      | inr t ↦ or_right (eqb i f) (eqb i o || is_in i os) (or_right (eqb i o) (is_in i os) t)
    ]

towards_all : (a : ℤ) → towards (nat_abs a) a ≡ pos 0
towards_all (pos n) = ap pos (omega arith)
towards_all (negsuc n) = ap (λ m. neg_ℤ (pos m)) (let e : suc n - suc n ≡ 0 = omega arith in e)

-- where the first or one of the others is 0, there is no arbitrage
zero_apart : (a b : ℤ) → (a ≡ pos 0) ⊎ (b ≡ pos 0) → opposite a b ≡ true → ⊥
zero_apart a b z e = elim (opposite_true a b e) [
  | inl t ↦ elim z [ inl y ↦ omega (arith, ints) | inr y ↦ omega (arith, ints) ]
  | inr t ↦ elim z [ inl y ↦ omega (arith, ints) | inr y ↦ omega (arith, ints) ]
]

zero_in : (q : Places) (a : ℤ) (os : List ℕ) (i : ℕ) → is_in i os ≡ true → q i ≡ pos 0 → all_opposite q a os ≡ true → ⊥
zero_in q a [] i e z t = absurd (false≢true e)
zero_in q a (o ∷ os) i e z t =
    let h = and_parts (opposite a (q o)) (all_opposite q a os) t in
    elim (or_cases (eqb i o) (is_in i os) e) [
      | inl s ↦ zero_apart a (q o) (inr (ap q (sym (eqb-true i o s)) ∙ z)) h.0
      | inr s ↦ zero_in q a os i s z h.1
    ]

zero_first : (q : Places) (f : ℕ) (os : List ℕ) → ((os ≡ []) → ⊥) → q f ≡ pos 0 → all_opposite q (q f) os ≡ true → ⊥
zero_first q f [] some z t = some refl
zero_first q f (o ∷ os) some z t = zero_apart (q f) (q o) (inl z) (and_parts (opposite (q f) (q o)) (all_opposite q (q f) os) t).0

pub gone : (r : Relation) (p : Places) → ((r.others ≡ []) → ⊥) → arbitrage r (net r p) ≡ false
gone r p some = elim (cases_Bool (arbitrage r (net r p))) [
  | inr f ↦ f
  | inl t ↦ absurd (
      let f = r.first in
      let os = r.others in
      let was : arbitrage r p ≡ true = all_opposite_before p (net r p) (p f) (net r p f) os (net_nearer r p) (net_nearer r p f) t in
      let s = at_smallest p f os in
      let i = s.0 in
      let z : net r p i ≡ pos 0 = cond-true (arbitrage r p && is_in i (f ∷ os)) (towards (smallest p f os) (p i)) (p i) (and_from (arbitrage r p) (is_in i (f ∷ os)) was s.1) ∙ ap (λ k. towards k (p i)) (sym s.2) ∙ towards_all (p i) in
      elim (or_cases (eqb i f) (is_in i os) s.1) [
        | inl e ↦ zero_first (net r p) f os some (ap (net r p) (sym (eqb-true i f e)) ∙ z) t
        | inr e ↦ zero_in (net r p) (net r p f) os i e z t
      ])
]

keeps_away : (r : Relation) (rs : List Relation) (p : Places) → arbitrage r p ≡ false → arbitrage r (net_all rs p) ≡ false
keeps_away r rs p e = stays_away r p (net_all rs p) (net_all_nearer rs p) e

pub none_remains : (rs : List Relation) (p : Places) → Proper rs → NoArbitrage rs (net_all rs p)
none_remains [] p h = tt
none_remains (r ∷ rs) p h = (keeps_away r rs (net r p) (gone r p h.0), none_remains rs (net r p) h.1)
