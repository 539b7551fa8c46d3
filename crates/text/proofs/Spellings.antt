-- Within the limit, `number_of` reads just the decimal writing of a number.
use Rattle.std.proofs.Common.{◌≡◌, ℕ, zero, suc, ◌+◌, ◌-◌, ◌*◌, ◌^◌, ◌<◌, ◌≤◌, min, true, false, cond, ◌&&◌, List, [], ◌∷◌, length, get_or, ℤ, pos, negsuc, neg_ℤ, nat_abs, Some, None, decimal, Option, sym, refl, ap, ◌∙◌, ⊎_elim, arith, rules}
use borrow.Author.Differences.{ints, abs_is}
use Rattle.std.proofs.lemmas.Fmt.{decimal_digit, decimal_nonempty, first_decimal, digits_decimal, digits_value-decimal, decimal-digits_value}
use Rattle.std.proofs.lemmas.Str.Parse.{IsNumeralModel, numerals_by_fold, tells_all_ascii_digits}
use Rattle.std.proofs.lemmas.Bool.{cases_eq, cases_Bool, eq-eqb, ne_eqb}
use Rattle.std.specs.Option.{option_map}
use Rattle.std.specs.Char.{is_ascii_digit}
use Rattle.std.specs.Fmt.{signed_decimal}
use Rattle.std.specs.Str.{all_ascii_digits}
use Rattle.text.proofs.Numbers.{never}
use Rattle.text.specs.Numbers.{digits, largest, capped, plain, only_zero, number_of, OneSpelling}

abbrev read_on : ℕ → List ℕ → ℕ
read_on n [] = n
read_on n (c ∷ cs) = read_on (n * 10 + (c - 48)) cs

own : IsNumeralModel (λ ds. all_ascii_digits ds ≡ true) (read_on 0)
own = numerals_by_fold _ tells_all_ascii_digits read_on (search rules)

digits_are : (n : ℕ) (cs : List ℕ) → digits n cs ≡ cond (all_ascii_digits cs) (Some (read_on n cs)) None
digits_are n [] = refl
digits_are n (c ∷ cs) =
    elim (is_ascii_digit c) as (λ b. cond b (digits (n * 10 + (c - 48)) cs) None ≡ cond (b && all_ascii_digits cs) (Some (read_on (n * 10 + (c - 48)) cs)) None)
    [ true ↦ digits_are (n * 10 + (c - 48)) cs | false ↦ refl ]

-- ---- what is written is read
plain_decimal : (ds : List ℕ) → 0 < length ds → 48 < get_or ds 0 0 → all_ascii_digits ds ≡ true → plain ds ≡ Some (capped (read_on 0 ds))
plain_decimal [] h first p = absurd (omega arith)
plain_decimal (c ∷ cs) h first p =
    let n : c ≡ 48 → ⊥ = λ e. omega arith in
    rw (ne_eqb c 48 n) (ap (option_map capped) (digits_are 0 (c ∷ cs) ∙ ap (λ b. cond b (Some (read_on 0 (c ∷ cs))) None) p))

no_sign : (c : ℕ) (cs : List ℕ) → (c ≡ 48 → ⊥) → (c ≡ 45 → ⊥) → number_of (c ∷ cs) ≡ plain (c ∷ cs)
no_sign c cs n m = rw (ne_eqb c 48 n, ne_eqb c 45 m)

number_plain : (ds : List ℕ) → 0 < length ds → 48 < get_or ds 0 0 → number_of ds ≡ plain ds
number_plain [] h first = absurd (omega arith)
number_plain (c ∷ cs) h first = no_sign c cs (λ e. omega arith) (λ e. omega arith)

plain_reads : (n : ℕ) → 0 < n → n ≤ largest → plain (decimal n) ≡ Some (pos n)
plain_reads n some small =
    let fits : n < 2 ^ 64 = omega arith in
    let e : min (read_on 0 (decimal n)) largest ≡ n = omega (arith, digits_value-decimal own n fits) in
    plain_decimal (decimal n) (decimal_nonempty n fits) (first_decimal n some fits) (digits_decimal own n fits) ∙ ap (λ m. Some (pos m)) e

reads : (z : ℤ) → nat_abs z ≤ largest → number_of (signed_decimal z) ≡ Some z
reads (pos zero) h = ap number_of (decimal_digit 0 (omega arith))
reads (pos (suc n)) h =
    let fits : suc n < 2 ^ 64 = omega arith in
    number_plain (decimal (suc n)) (decimal_nonempty (suc n) fits) (first_decimal (suc n) (omega arith) fits) ∙ plain_reads (suc n) (omega arith) h
reads (negsuc n) h = ap (option_map neg_ℤ) (plain_reads (suc n) (omega arith) h)

-- ---- what is read was written
-- digits of which the first is not 0, and what they write
record Spelled (ds : List ℕ) (z : ℤ) : Type 0 where
  size : ℕ
  some : 0 < size
  is : z ≡ capped size
  spelled : size < 2 ^ 64 → ds ≡ decimal size

from_digits : (c : ℕ) (cs : List ℕ) (z : ℤ) → (c ≡ 48 → ⊥) → option_map capped (digits 0 (c ∷ cs)) ≡ Some z → Spelled (c ∷ cs) z
from_digits c cs z n e =
    let ds : List ℕ = c ∷ cs in
    let told : Some z ≡ option_map capped (cond (all_ascii_digits ds) (Some (read_on 0 ds)) None) = sym e ∙ ap (option_map capped) (digits_are 0 ds) in
    ⊎_elim
    (λ p.
    let v : Some z ≡ Some (capped (read_on 0 ds)) = rw p at told in
    let spelled : read_on 0 ds < 2 ^ 64 → ds ≡ decimal (read_on 0 ds) = λ fits. sym (decimal-digits_value own ds p (omega arith) (λ zero_first. absurd (n zero_first)) fits) in
    ⊎_elim
    (λ none.
    let w : ds ≡ 48 ∷ [] = spelled (omega arith) ∙ ap decimal none ∙ decimal_digit 0 (omega arith) in
    let same : c ≡ 48 = cc in
    absurd (n same))
    (λ more. record { size = read_on 0 ds; some = omega arith; is = cc; spelled = spelled })
    (cases_eq (read_on 0 ds) 0))
    (λ p. absurd (never z (rw p at told)))
    (cases_Bool (all_ascii_digits ds))

from_plain : (ds : List ℕ) (z : ℤ) → plain ds ≡ Some z → Spelled ds z
from_plain [] z e = absurd (never z (sym e))
from_plain (c ∷ cs) z e =
    ⊎_elim
    (λ is. absurd (never z (sym (rw (eq-eqb c 48 is) at e))))
    (λ n. from_digits c cs z n (rw (ne_eqb c 48 n) at e))
    (cases_eq c 48)

under : (n : ℕ) (z : ℤ) → z ≡ capped n → nat_abs z < largest → z ≡ pos n
under n z e h =
    let m : nat_abs z ≡ min n largest = ap nat_abs e in
    let same : min n largest ≡ n = omega arith in
    e ∙ ap pos same

minus_decimal : (n : ℕ) → 0 < n → 45 ∷ decimal n ≡ signed_decimal (neg_ℤ (pos n))
minus_decimal zero h = absurd (omega arith)
minus_decimal (suc n) h = refl

spells_minus : (ds : List ℕ) (o : Option ℤ) (z : ℤ) → plain ds ≡ o → nat_abs z < largest → option_map neg_ℤ o ≡ Some z → 45 ∷ ds ≡ signed_decimal z
spells_minus ds None z told h e = absurd (never z (sym e))
spells_minus ds (Some y) z told h e =
    let is : neg_ℤ y ≡ z = cc in
    let s = from_plain ds y told in
    let size : nat_abs y < largest = omega (arith, ints, abs_is y, abs_is z, ap nat_abs is) in
    let y-is = under s.size y s.is size in
    let fits : s.size < 2 ^ 64 = omega (arith, ap nat_abs y-is) in
    ap (λ w. 45 ∷ w) (s.spelled fits) ∙ minus_decimal s.size s.some ∙ ap signed_decimal (ap neg_ℤ (sym y-is) ∙ is)

spells_plain : (ds : List ℕ) (z : ℤ) → nat_abs z < largest → plain ds ≡ Some z → ds ≡ signed_decimal z
spells_plain ds z h e =
    let s = from_plain ds z e in
    let z-is = under s.size z s.is h in
    let fits : s.size < 2 ^ 64 = omega (arith, ap nat_abs z-is) in
    s.spelled fits ∙ ap signed_decimal (sym z-is)

spells_zero : (cs : List ℕ) (z : ℤ) → only_zero cs ≡ Some z → 48 ∷ cs ≡ signed_decimal z
spells_zero [] z e = let is : pos 0 ≡ z = cc in sym (decimal_digit 0 (omega arith)) ∙ ap signed_decimal is
spells_zero (c ∷ cs) z e = absurd (never z (sym e))

spells : (w : List ℕ) (z : ℤ) → nat_abs z < largest → number_of w ≡ Some z → w ≡ signed_decimal z
spells [] z h e = absurd (never z (sym e))
spells (c ∷ cs) z h e =
    ⊎_elim
    (λ is. ap (λ b. b ∷ cs) is ∙ spells_zero cs z (rw (eq-eqb c 48 is) at e))
    (λ n.
    ⊎_elim
    (λ is. ap (λ b. b ∷ cs) is ∙ spells_minus cs (plain cs) z refl h (rw (ne_eqb c 48 n, eq-eqb c 45 is) at e))
    (λ m. spells_plain (c ∷ cs) z h (sym (no_sign c cs n m) ∙ e))
    (cases_eq c 45))
    (cases_eq c 48)

pub one_spelling : (w : List ℕ) (o : Option ℤ) → o ≡ number_of w → OneSpelling w o
one_spelling w o e =
    record {
      reads = λ z h is. e ∙ ap number_of is ∙ reads z h;
      spells = λ z h is. spells w z h (sym e ∙ is);
    }
