-- A number that is capped at each digit is the number capped at its end.
use Rattle.std.proofs.Common.{◌≡◌, ℕ, ◌+◌, ◌-◌, ◌*◌, ◌<◌, min, true, false, cond, List, [], ◌∷◌, length, get_or, drop, ℤ, Some, None, Option, sym, refl, ap, ◌∙◌, arith}
use Rattle.std.proofs.lemmas.List.{at_drop_more}
use Rattle.std.specs.Option.{option_map}
use Rattle.std.specs.Char.{is_ascii_digit}
use Rattle.text.specs.Numbers.{digits, largest, capped}

-- what the digits still to be read give after n
abbrev pub left : ℕ → List ℕ → Option ℤ
left n cs = option_map capped (digits n cs)

cap_digits : (n : ℕ) (cs : List ℕ) → left (min n largest) cs ≡ left n cs
cap_digits n [] = let e : min (min n largest) largest ≡ min n largest = omega arith in simp e
cap_digits n (c ∷ cs) =
    let d : ℕ = c - 48 in
    let e : min (min n largest * 10 + d) largest ≡ min (n * 10 + d) largest = omega arith in
    let tail : left (min n largest * 10 + d) cs ≡ left (n * 10 + d) cs =
    sym (cap_digits (min n largest * 10 + d) cs) ∙ ap (λ m. left m cs) e ∙ cap_digits (n * 10 + d) cs in
    elim (is_ascii_digit c) as (λ b. option_map capped (cond b (digits (min n largest * 10 + d) cs) None) ≡ option_map capped (cond b (digits (n * 10 + d) cs) None)) [ true ↦ tail | false ↦ refl ]

-- one digit more
pub digit_more : (ds : List ℕ) (i n m : ℕ) → i < length ds → is_ascii_digit (get_or ds i 0) ≡ true → m ≡ min (n * 10 + (get_or ds i 0 - 48)) largest → left m (drop (i + 1) ds) ≡ left n (drop i ds)
digit_more ds i n m h t e = rw (at_drop_more (left n) ds i 0 h, t, e) (cap_digits (n * 10 + (get_or ds i 0 - 48)) (drop (i + 1) ds))

pub never : {X : Type 0} (x : X) → Some x ≡ None → ⊥
never x e = let z : ◌≡◌ {A = ℕ} 0 1 = cc in omega arith
