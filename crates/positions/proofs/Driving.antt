-- Relations netted one after another.
use Rattle.std.proofs.Common.{◌≡◌, ℕ, suc, ◌+◌, ◌-◌, ◌<◌, min, Bool, true, false, cond, ◌&&◌, List, [], ◌∷◌, ◌++◌, ℤ, nat_abs, sym, refl, ap, ◌∙◌, ap₂, arith}
use Rattle.std.specs.List.{range_with_len}
use Rattle.std.proofs.lemmas.Bool.{cond-true, cond-false}
use Rattle.contracts.specs.Table.{Table}
use Rattle.positions.specs.Net.{Places, Relation, opposite, all_opposite, arbitrage, smallest, towards, is_in, net, net_all}
use Rattle.positions.specs.Steps.{related}
use Rattle.positions.specs.Netted.{Tier, is_listed, relation_of, relations_over}
use Rattle.positions.proofs.Conserving.{Below, AllWhole}

-- ---- netting of equal positions
opposite_same : (p q : Places) (a : ℤ) (os : List ℕ) → ((i : ℕ) → p i ≡ q i) → all_opposite p a os ≡ all_opposite q a os
opposite_same p q a [] e = refl
opposite_same p q a (o ∷ os) e = ap₂ (λ x r. opposite a x && r) (e o) (opposite_same p q a os e)

smallest_same : (p q : Places) (f : ℕ) (os : List ℕ) → ((i : ℕ) → p i ≡ q i) → smallest p f os ≡ smallest q f os
smallest_same p q f [] e = ap nat_abs (e f)
smallest_same p q f (o ∷ os) e = ap₂ (λ x r. min (nat_abs x) r) (e o) (smallest_same p q f os e)

net_same : (r : Relation) (p q : Places) → ((i : ℕ) → p i ≡ q i) → (i : ℕ) → net r p i ≡ net r q i
net_same r p q e i =
    let test : arbitrage r p ≡ arbitrage r q = opposite_same p q (p r.first) r.others e ∙ ap (λ a. all_opposite q a r.others) (e r.first) in
    let size = smallest_same p q r.first r.others e in
    ap (λ b. cond (b && is_in i (r.first ∷ r.others)) (towards (smallest p r.first r.others) (p i)) (p i)) test
    ∙ ap (λ k. cond (arbitrage r q && is_in i (r.first ∷ r.others)) (towards k (p i)) (p i)) size
    ∙ ap (λ x. cond (arbitrage r q && is_in i (r.first ∷ r.others)) (towards (smallest q r.first r.others) x) x) (e i)

pub net_all_same : (rs : List Relation) (p q : Places) → ((i : ℕ) → p i ≡ q i) → (i : ℕ) → net_all rs p i ≡ net_all rs q i
net_all_same [] p q e i = e i
net_all_same (r ∷ rs) p q e i = net_all_same rs (net r p) (net r q) (net_same r p q e) i

pub net_all_append : (rs ss : List Relation) (p : Places) (i : ℕ) → net_all (rs ++ ss) p i ≡ net_all ss (net_all rs p) i
net_all_append [] ss p i = refl
net_all_append (r ∷ rs) ss p i = net_all_append rs ss (net r p) i

-- ---- a tier, place by place
pub over_first : (t : Table) (x : Tier) (i : ℕ) (is : List ℕ) (p : Places) (k : ℕ) → net_all (relations_over t x (i ∷ is)) p k ≡ net_all (relations_over t x is) (net_all (relations_over t x (i ∷ [])) p) k
over_first t x i is p k = by (is_listed t x i)
  where
    by : (b : Bool) → net_all (cond b (relation_of t x i ∷ relations_over t x is) (relations_over t x is)) p k ≡ net_all (relations_over t x is) (net_all (cond b (relation_of t x i ∷ []) []) p) k
    by true = refl
    by false = refl

pub one_place : (t : Table) (x : Tier) (n i : ℕ) (p q : Places) (whole : Places) → i < n → ((k : ℕ) → q k ≡ net_all (relations_over t x (i ∷ [])) p k) → ((k : ℕ) → net_all (relations_over t x (range_with_len i (n - i))) p k ≡ whole k) → (k : ℕ) → net_all (relations_over t x (range_with_len (i + 1) (n - (i + 1)))) q k ≡ whole k
one_place t x n i p q whole h e so k =
    let s : n - i ≡ suc (n - (i + 1)) = omega arith in
    net_all_same (relations_over t x (range_with_len (i + 1) (n - (i + 1)))) q (net_all (relations_over t x (i ∷ [])) p) e k
    ∙ sym (over_first t x i (range_with_len (i + 1) (n - (i + 1))) p k)
    ∙ ap (λ c. net_all (relations_over t x (range_with_len i c)) p k) (sym s) ∙ so k

-- the relation of one place is netted, or there is none
pub place_netted : (t : Table) (x : Tier) (i : ℕ) (found : List ℕ) (p q : Places) → is_listed t x i ≡ true → found ≡ (relation_of t x i).others → ((k : ℕ) → q k ≡ net (related i found) p k) → (k : ℕ) → q k ≡ net_all (relations_over t x (i ∷ [])) p k
place_netted t x i found p q listed others e k =
    e k ∙ ap (λ (os : List ℕ). net (related i os) p k) others ∙ sym (ap (λ (rs : List Relation). net_all rs p k) (cond-true (is_listed t x i) (relation_of t x i ∷ []) [] listed))

pub place_left : (t : Table) (x : Tier) (i : ℕ) (p q : Places) → is_listed t x i ≡ false → ((k : ℕ) → q k ≡ p k) → (k : ℕ) → q k ≡ net_all (relations_over t x (i ∷ [])) p k
place_left t x i p q not_listed e k = e k ∙ sym (ap (λ (rs : List Relation). net_all rs p k) (cond-false (is_listed t x i) (relation_of t x i ∷ []) [] not_listed))

-- ---- equal positions of the table's contracts
agree_opposite : (n : ℕ) (p q : Places) (a : ℤ) (os : List ℕ) → Below n os → ((i : ℕ) → i < n → p i ≡ q i) → all_opposite p a os ≡ all_opposite q a os
agree_opposite n p q a [] b e = refl
agree_opposite n p q a (o ∷ os) b e = ap₂ (λ x r. opposite a x && r) (e o b.0) (agree_opposite n p q a os b.1 e)

agree_smallest : (n : ℕ) (p q : Places) (f : ℕ) (os : List ℕ) → f < n → Below n os → ((i : ℕ) → i < n → p i ≡ q i) → smallest p f os ≡ smallest q f os
agree_smallest n p q f [] h b e = ap nat_abs (e f h)
agree_smallest n p q f (o ∷ os) h b e = ap₂ (λ x r. min (nat_abs x) r) (e o b.0) (agree_smallest n p q f os h b.1 e)

agree_net : (n : ℕ) (r : Relation) (p q : Places) → Below n (r.first ∷ r.others) → ((i : ℕ) → i < n → p i ≡ q i) → (i : ℕ) → i < n → net r p i ≡ net r q i
agree_net n r p q b e i h =
    let test : arbitrage r p ≡ arbitrage r q = agree_opposite n p q (p r.first) r.others b.1 e ∙ ap (λ a. all_opposite q a r.others) (e r.first b.0) in
    let size = agree_smallest n p q r.first r.others b.0 b.1 e in
    ap (λ c. cond (c && is_in i (r.first ∷ r.others)) (towards (smallest p r.first r.others) (p i)) (p i)) test
    ∙ ap (λ k. cond (arbitrage r q && is_in i (r.first ∷ r.others)) (towards k (p i)) (p i)) size
    ∙ ap (λ x. cond (arbitrage r q && is_in i (r.first ∷ r.others)) (towards (smallest q r.first r.others) x) x) (e i h)

pub agree : (n : ℕ) (w : ℕ → ℕ) (rs : List Relation) → AllWhole n w rs → (p q : Places) → ((i : ℕ) → i < n → p i ≡ q i) → (i : ℕ) → i < n → net_all rs p i ≡ net_all rs q i
agree n w [] a p q e i h = e i h
agree n w (r ∷ rs) a p q e i h = agree n w rs a.1 (net r p) (net r q) (agree_net n r p q a.0.within e) i h
