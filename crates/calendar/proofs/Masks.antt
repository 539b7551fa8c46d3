-- The bits of a mask.
use Rattle.std.proofs.Common.{◌≡◌, ℕ, zero, suc, ◌+◌, ◌-◌, ◌*◌, ◌/◌, ◌%◌, ◌^◌, ◌<◌, ◌≤◌, Bool, true, false, cond, eqb, sym, refl, ap, ◌∙◌, inl, inr, pow-suc, arith, pow_pos, pow-add}
use native.Mathlib.Nat.{add-mul-div_right}
use lib.Arith.{digits_div}
use Rattle.std.proofs.lemmas.Bool.{cases_Bool, cases_lt}
use Rattle.calendar.specs.Loads.{mask_to, mask_of, load_mask, delivers, HourByHour}
use Rattle.calendar.specs.declared.load.Load.{Load}

bit : Bool → ℕ
bit b = cond b 1 0

bit_times : (b : Bool) (x : ℕ) → cond b x 0 ≡ bit b * x
unfolding bit
bit_times true x = omega arith
bit_times false x = omega arith

bit_small : (b : Bool) → bit b ≤ 1
unfolding bit
bit_small true = omega arith
bit_small false = omega arith

bit_test : (b : Bool) → eqb (bit b % 2) 1 ≡ b
unfolding bit
bit_test true = refl
bit_test false = refl

pub mask_small : (n : ℕ) (hours : ℕ → Bool) → mask_to n hours < 2 ^ n
mask_small zero hours = omega arith
mask_small (suc n) hours =
    let i = mask_small n hours in
    let p = pow-suc 2 n in
    elim (cases_Bool (hours (suc n))) [
      | inl t ↦ (let e = ap (λ b. cond b (2 ^ n) 0) t in omega arith)
      | inr f ↦ (let e = ap (λ b. cond b (2 ^ n) 0) f in omega arith)
    ]

mask_bit : (n k : ℕ) (hours : ℕ → Bool) → k < n → (mask_to n hours / 2 ^ k) % 2 ≡ bit (hours (suc k))
mask_bit zero k hours h = absurd (omega arith)
mask_bit (suc n) k hours h = elim (cases_lt k n) [
  | inl a ↦ (
      let b : Bool = hours (suc n) in
      let split : n ≡ (n - k - 1) + 1 + k = omega arith in
      let power : 2 ^ n ≡ 2 ^ (n - k - 1) * 2 * 2 ^ k = ap (λ j. 2 ^ j) split ∙ pow-add 2 (n - k - 1 + 1) k ∙ ap (λ x. x * 2 ^ k) (pow-add 2 (n - k - 1) 1) in
      let more : cond b (2 ^ n) 0 ≡ cond b (2 ^ (n - k - 1) * 2) 0 * 2 ^ k = ap (λ x. cond b x 0) power ∙ cond_times b (2 ^ (n - k - 1) * 2) (2 ^ k) in
      let quotient : (mask_to n hours + cond b (2 ^ n) 0) / 2 ^ k ≡ mask_to n hours / 2 ^ k + cond b (2 ^ (n - k - 1) * 2) 0 = ap (λ x. (mask_to n hours + x) / 2 ^ k) more ∙ add-mul-div_right (mask_to n hours) (cond b (2 ^ (n - k - 1) * 2) 0) (pow_pos k) in
      let even = even_times b (2 ^ (n - k - 1)) in
      let i = mask_bit n k hours a in
      omega arith)
  | inr a ↦ (
      let same : k ≡ n = omega arith in
      let small = mask_small n hours in
      let top : mask_to (suc n) hours / 2 ^ n ≡ bit (hours (suc n)) = ap (λ x. (mask_to n hours + x) / 2 ^ n) (bit_times (hours (suc n)) (2 ^ n)) ∙ swapped ∙ digits_div (bit (hours (suc n))) small in
      let one = bit_small (hours (suc n)) in
      ap (λ j. (mask_to (suc n) hours / 2 ^ j) % 2) same ∙ ap (λ x. x % 2) top ∙ rest one ∙ ap (λ j. bit (hours (suc j))) (sym same))
]
  where
    cond_times : (b : Bool) (x y : ℕ) → cond b (x * y) 0 ≡ cond b x 0 * y
    cond_times true x y = refl
    cond_times false x y = omega arith

    even_times : (b : Bool) (x : ℕ) → cond b (x * 2) 0 % 2 ≡ 0
    even_times true x = omega arith
    even_times false x = refl

    swapped : (mask_to n hours + bit (hours (suc n)) * 2 ^ n) / 2 ^ n ≡ (bit (hours (suc n)) * 2 ^ n + mask_to n hours) / 2 ^ n
    swapped = ap (λ x. x / 2 ^ n) (omega arith)

    rest : bit (hours (suc n)) ≤ 1 → bit (hours (suc n)) % 2 ≡ bit (hours (suc n))
    rest h = omega arith

-- what is returned for a load is the mask of that load
pub mask_is : (load one : Load) (d r : ℕ) → load ≡ one → r ≡ mask_of one d → r ≡ load_mask load d
unfolding load_mask
mask_is load one d r e is = is ∙ ap (λ l. mask_of l d) (sym e)

pub hour_by_hour : (load : Load) (d : ℕ) → HourByHour load d
unfolding load_mask
hour_by_hour load d k low high =
    let same : suc (k - 1) ≡ k = omega arith in
    ap (λ x. eqb x 1) (mask_bit 25 (k - 1) (delivers load d) (omega arith) ∙ whole (delivers load d (suc (k - 1)))) ∙ bit_test (delivers load d (suc (k - 1))) ∙ ap (delivers load d) same
  where
    whole : (b : Bool) → bit b ≡ bit b % 2
    whole b = let s = bit_small b in omega arith
