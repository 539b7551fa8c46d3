-- The sum of the net positions, one account after another.
use Rattle.std.proofs.Common.{◌≡◌, ℕ, zero, suc, ◌+◌, ◌*◌, ◌<◌, ◌≤◌, Bool, true, false, cond, not, ◌||◌, eqb, List, [], ◌∷◌, ◌++◌, length, get_or, take, ℤ, pos, ◌+ℤ◌, nat_abs, fold, sum_by, sym, refl, ap, ap₂, ◌∙◌, arith}
use borrow.Author.Differences.{ints, abs_is}
use Rattle.std.proofs.lemmas.List.{take_more, length-append}
use Rattle.std.proofs.lemmas.List.Sums.{fold-append, sum_by-append}
use Rattle.std.proofs.lemmas.Bool.{or_right, and_parts, not-true, eq-eqb, ne_eqb, both_ways}
use Rattle.books.specs.Limits.{is_of, held_by}
use Rattle.books.specs.State.{is_account, account_place, are_apart}
use Rattle.books.specs.declared.entry.Account.{Account}
use Rattle.books.specs.declared.entry.Whose.{Whose}
use Rattle.ledger.specs.Views.{nobody}

-- what the account at a place adds
abbrev pub term_at : Whose → (ℕ → ℤ) → List Account → ℕ → ℤ
term_at w n as' i = cond (is_of w (get_or as' i nobody)) (n (get_or as' i nobody).number) (pos 0)

held_push : (w : Whose) (n : ℕ → ℤ) (ys : List Account) (y : Account) → held_by w n (ys ++ y ∷ []) ≡ held_by w n ys +ℤ cond (is_of w y) (n y.number) (pos 0)
held_push w n [] y = omega (arith, ints)
held_push w n (x ∷ ys) y = omega (arith, ints, held_push w n ys y)

-- one account more
pub held_more : (w : Whose) (n : ℕ → ℤ) (ys : List Account) (i : ℕ) → i < length ys → held_by w n (take (i + 1) ys) ≡ held_by w n (take i ys) +ℤ term_at w n ys i
held_more w n ys i h = ap (held_by w n) (take_more ys i nobody h) ∙ held_push w n (take i ys) (get_or ys i nobody)

-- the net positions of the first n accounts, of those that are summed
pub record Summed (w : Whose) (f : ℕ → ℤ) (ys : List Account) (xs : List ℤ) (n : ℕ) : Type 0 where
  pub few : length xs ≤ n
  pub is : fold ◌+ℤ◌ (pos 0) xs ≡ held_by w f (take n ys)
  pub small : sum_by nat_abs xs ≤ n * 10000
  pub near : nat_abs (fold ◌+ℤ◌ (pos 0) xs) ≤ n * 10000

pub one_summed : (w : Whose) (f : ℕ → ℤ) (ys : List Account) (xs : List ℤ) (n : ℕ) (z : ℤ) → Summed w f ys xs n → n < length ys → is_of w (get_or ys n nobody) ≡ true → z ≡ f (get_or ys n nobody).number → nat_abs z ≤ 10000 → Summed w f ys (xs ++ z ∷ []) (n + 1)
one_summed w f ys xs n z so h on e b =
    let few = so.few in
    let small = so.small in
    let near = so.near in
    let more = fold-append ◌+ℤ◌ (pos 0) xs (z ∷ []) in
    let term : z ≡ term_at w f ys n = e ∙ sym (ap (λ (t : Bool). cond t (f (get_or ys n nobody).number) (pos 0)) on) in
    record {
      few = omega (arith, length-append xs (z ∷ []));
      is = more ∙ ap₂ ◌+ℤ◌ so.is term ∙ sym (held_more w f ys n h);
      small = omega (arith, sum_by-append nat_abs xs (z ∷ []));
      near = omega (arith, ints, abs_is, more);
    }

pub none_summed : (w : Whose) (f : ℕ → ℤ) (ys : List Account) (xs : List ℤ) (n : ℕ) → Summed w f ys xs n → n < length ys → is_of w (get_or ys n nobody) ≡ false → Summed w f ys xs (n + 1)
none_summed w f ys xs n so h off =
    let few = so.few in
    let small = so.small in
    let near = so.near in
    let term : term_at w f ys n ≡ pos 0 = ap (λ (t : Bool). cond t (f (get_or ys n nobody).number) (pos 0)) off in
    record {
      few = omega arith;
      is = omega (arith, ints, so.is, term, held_more w f ys n h);
      small = omega arith;
      near = omega arith;
    }

-- ---- numbers that differ go by their places
there_at : (ys : List Account) (i : ℕ) → i < length ys → is_account (get_or ys i nobody).number ys ≡ true
there_at [] i h = absurd (omega arith)
there_at (y ∷ ys) zero h = ap (λ (b : Bool). b || is_account y.number ys) (eq-eqb y.number y.number refl)
there_at (y ∷ ys) (suc i) h = or_right _ _ (there_at ys i (omega arith))

pub at_place : (ys : List Account) (i : ℕ) → are_apart ys ≡ true → i < length ys → (is_account (get_or ys i nobody).number ys ≡ true) × (account_place (get_or ys i nobody).number ys ≡ i)
at_place [] i a h = absurd (omega arith)
at_place (y ∷ ys) zero a h = (there_at (y ∷ ys) 0 h, ap (λ (b : Bool). cond b 0 (suc (account_place y.number ys))) (eq-eqb y.number y.number refl))
at_place (y ∷ ys) (suc i) a h =
    let parts = and_parts (not (is_account y.number ys)) (are_apart ys) a in
    let r = at_place ys i parts.1 (omega arith) in
    let n = (get_or ys i nobody).number in
    let other : eqb y.number n ≡ false = ne_eqb y.number n (λ same. both_ways (is_account y.number ys) (not-true (is_account y.number ys) parts.0) (ap (λ k. is_account k ys) same ∙ r.0)) in
    (there_at (y ∷ ys) (suc i) h, ap (λ (b : Bool). cond b 0 (suc (account_place n ys))) other ∙ ap suc r.1)
