-- The gains of a line, one number after another.
use Rattle.std.proofs.Common.{◌≡◌, ℕ, zero, suc, ◌+◌, ◌-◌, ◌<◌, ◌≤◌, Bool, true, false, cond, ◌⊎◌, List, [], ◌∷◌, ◌++◌, map, length, get_or, take, drop, set, replicate, ℤ, pos, negsuc, Ok, Err, Result, sym, refl, ap, ◌∙◌, inl, inr, append_assoc, arith, length-set, w64, SFits, of_z}
use Rattle.std.proofs.lemmas.List.{at_drop_more, at_drop_all, append-nil, length-map, length-take-le, take_more_set, drop-set-lt, drop-drop, drop-replicate, take-append-drop}
use Rattle.std.proofs.lemmas.Bool.{eq-eqb, ne_eqb, lt-ltb, le-ltb}
use Rattle.terms.specs.declared.refusal.Refusal.{Refusal}
use Rattle.terms.specs.declared.refusal.Refusal.TheVariants.{Form}
use Rattle.text.specs.Chain.{◌then◌}
use Rattle.text.specs.Cursor.{number_in}
use Rattle.text.specs.Fields.{Piece, a_word, a_number, see}
use Rattle.text.specs.declared.field.Field.{Field}
use Rattle.forms.specs.Tails.{numbers_in, is_zero, ends_in_zero, gains_form}

-- all numbers, as many as there are fields; or wrong in form
numbers_told : (ps : List Piece) → (numbers_in ps ≡ Err Form) ⊎ ((zs : List ℤ) × (numbers_in ps ≡ Ok zs) × (length zs ≡ length ps))
numbers_told [] = inr ([], refl, refl)
numbers_told (a_word w ∷ ps) = inl refl
numbers_told (a_number z ∷ ps) = elim (numbers_told ps) [
  | inl e ↦ inl (rw e)
  | inr t ↦ inr (z ∷ t.0, rw t.1, ap suc t.2)
]

pub too_many : (fs : List Field) → 16 < length fs → Err Form ≡ gains_form (map see fs)
too_many fs h = elim (numbers_told (map see fs)) [
  | inl e ↦ rw e
  | inr t ↦ (let many : 16 < length t.0 = omega (arith, t.2, length-map fs see) in rw (t.1, lt-ltb 16 (length t.0) many))
]

-- what is put in front of a list, with its first element
pub regrouped : {X E : Type 0} (r : Result (List X) E) (front : List X) (x : X) → ((r then λ xs. Ok (x ∷ xs)) then λ xs. Ok (front ++ xs)) ≡ (r then λ xs. Ok ((front ++ x ∷ []) ++ xs))
regrouped (Ok xs) front x = ap Ok (sym (append_assoc front (x ∷ []) xs))
regrouped (Err e) front x = refl

-- the first i fields have been read, and zeros stand behind them
pub record ReadTo (fs : List Field) (i : ℕ) (each : List ℤ) : Type 0 where
  pub sixteen : length each ≡ 16
  pub zeros : drop i each ≡ replicate (16 - i) (pos 0)
  pub whole : numbers_in (map see fs) ≡ (numbers_in (map see (drop i fs)) then λ zs. Ok (take i each ++ zs))

-- a test for 0 looks at the bits
zero_by : (z : ℤ) → SFits w64 z → of_z w64 z ≡ 0 → is_zero z ≡ true
zero_by (pos m) fits e = eq-eqb m 0 e
zero_by (negsuc m) fits e = let h = fits.sfits in absurd (omega arith)

other_by : (z : ℤ) → (of_z w64 z ≡ 0 → ⊥) → is_zero z ≡ false
other_by (pos m) n = ne_eqb m 0 n
other_by (negsuc m) n = ne_eqb (suc m) 0 (λ e. omega arith)

last_of : (zs : List ℤ) (i : ℕ) → i < length zs → ends_in_zero (take (suc i) zs) ≡ is_zero (get_or zs i (pos 0))
last_of [] i h = absurd (omega arith)
last_of (z ∷ zs) zero h = refl
last_of (z ∷ []) (suc i) h = absurd (omega arith)
last_of (z ∷ y ∷ zs) (suc i) h = last_of (y ∷ zs) i (omega arith)

-- the last of the first n
last_is_zero : (zs : List ℤ) (n : ℕ) → 0 < n → n ≤ length zs → ends_in_zero (take n zs) ≡ is_zero (get_or zs (n - 1) (pos 0))
last_is_zero zs zero h few = absurd (omega arith)
last_is_zero zs (suc i) h few = last_of zs i few ∙ ap (λ (k : ℕ). is_zero (get_or zs k (pos 0))) (omega arith)

module _ {fs : List Field} {i : ℕ} {each : List ℤ} (so : ReadTo fs i each) where
  abbrev left : List Field → Result (List ℤ) Refusal
  left gs = numbers_in (map see gs) then λ zs. Ok (take i each ++ zs)

  pub read_more : (d : Field) (z : ℤ) → i < length fs → i < 16 → Ok z ≡ number_in (see (get_or fs i d)) → ReadTo fs (i + 1) (set each i z)
  read_more d z h room e =
      let n = so.sixteen in
      let inside : i < length each = omega arith in
      record {
        sixteen = simp length-set n;
        zeros = drop-set-lt (i + 1) each i z (omega arith) ∙ sym (drop-drop 1 i each) ∙ ap (drop 1) so.zeros ∙ drop-replicate 1 (16 - i) (pos 0) ∙ ap (λ (k : ℕ). replicate k (pos 0)) (omega arith);
        whole = so.whole ∙ rw (at_drop_more left fs i d h, ← e, take_more_set each i z inside) (regrouped (numbers_in (map see (drop (i + 1) fs))) (take i each) z);
      }

  pub read_stops : (d : Field) (e : Refusal) → i < length fs → Err e ≡ number_in (see (get_or fs i d)) → Err e ≡ gains_form (map see fs)
  read_stops d e h is = rw (so.whole, at_drop_more left fs i d h, ← is)

  -- all have been read
  module _ (h : length fs ≤ i) (k : i ≤ length fs) (few : length fs ≤ 16) where
    all_read : (b : Bool) → ends_in_zero (take (length fs) each) ≡ b → gains_form (map see fs) ≡ cond b (Err Form) (Ok (record { each = each }))
    all_read b ends =
        let n = so.sixteen in
        let at : length fs ≡ i = omega arith in
        let numbers : numbers_in (map see fs) ≡ Ok (take i each) = so.whole ∙ rw (at_drop_all left fs i h, append-nil) in
        let len : length (take i each) ≡ i = length-take-le i each (omega arith) in
        let filled : take i each ++ replicate (16 - i) (pos 0) ≡ each = rw (← so.zeros) (take-append-drop i each) in
        rw (numbers, len, le-ltb 16 i (omega arith), filled, ← ends, at)

    pub last_gain_is_zero : 0 < length fs → SFits w64 (get_or each (length fs - 1) (pos 0)) → of_z w64 (get_or each (length fs - 1) (pos 0)) ≡ 0 → Err Form ≡ gains_form (map see fs)
    last_gain_is_zero some fits e = let n = so.sixteen in sym (all_read true (last_is_zero each (length fs) some (omega arith) ∙ zero_by _ fits e))

    pub ends_in_other : 0 < length fs → (of_z w64 (get_or each (length fs - 1) (pos 0)) ≡ 0 → ⊥) → Ok (record { each = each }) ≡ gains_form (map see fs)
    ends_in_other some ne = let n = so.sixteen in sym (all_read false (last_is_zero each (length fs) some (omega arith) ∙ other_by (get_or each (length fs - 1) (pos 0)) ne))

    pub no_gains : length fs ≤ 0 → Ok (record { each = each }) ≡ gains_form (map see fs)
    no_gains none = let at : length fs ≡ 0 = omega arith in sym (all_read false (rw at))
