-- The ring laws that the library lacks.
use Rattle.std.proofs.Common.{◌≡◌, ℕ, ◌+◌, ◌*◌, ℤ, ◌+ℤ◌, ◌*ℤ◌, neg_ℤ, ap, ◌∙◌, arith}
use lib.IntN.{*ℤ_comm}
use borrow.Author.Differences.{up, down, ints, sum_is_lem, neg_is}

pub *ℤ-over : (k a b : ℤ) → k *ℤ (a +ℤ b) ≡ k *ℤ a +ℤ k *ℤ b
*ℤ-over k a b =
    let s = sum_is_lem a b in
    let u : up k * (up (a +ℤ b) + down a + down b) ≡ up k * (down (a +ℤ b) + up a + up b) = ap (λ (n : ℕ). up k * n) s in
    let d : down k * (up (a +ℤ b) + down a + down b) ≡ down k * (down (a +ℤ b) + up a + up b) = ap (λ (n : ℕ). down k * n) s in
    omega (arith, ints)

pub *ℤ-over-left : (a b k : ℤ) → (a +ℤ b) *ℤ k ≡ a *ℤ k +ℤ b *ℤ k
*ℤ-over-left a b k = *ℤ_comm (a +ℤ b) k ∙ *ℤ-over k a b ∙ ap (λ x. x +ℤ k *ℤ b) (*ℤ_comm k a) ∙ ap (λ x. a *ℤ k +ℤ x) (*ℤ_comm k b)

-- an equation of naturals, times a number
times : (n : ℕ) {a b : ℕ} → a ≡ b → n * a ≡ n * b
times n e = ap (λ x. n * x) e

pub *ℤ-minus : (k a : ℤ) → k *ℤ neg_ℤ a ≡ neg_ℤ (k *ℤ a)
*ℤ-minus k a =
    let p = neg_is a in
    omega (arith, ints, times (up k) p.0, times (down k) p.0, times (up k) p.1, times (down k) p.1)
