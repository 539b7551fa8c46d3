-- The limits of a line, one pair after another.
use Rattle.std.proofs.Common.{◌≡◌, ℕ, ◌+◌, ◌*◌, ◌<◌, ◌≤◌, ◌⊎◌, List, [], ◌∷◌, ◌++◌, map, length, get_or, take, drop, set, Ok, Err, Result, refl, ap, ◌∙◌, inl, inr, arith, length-set}
use Rattle.std.proofs.lemmas.List.{at_drop_more, at_drop_all, append-nil, length-map, length-take-le, take_more_set}
use Rattle.std.proofs.lemmas.Bool.{cases_lt, lt-ltb, le-ltb}
use Rattle.terms.specs.declared.refusal.Refusal.{Refusal}
use Rattle.terms.specs.declared.refusal.Refusal.TheVariants.{Form}
use Rattle.tariff.specs.declared.rows.Step.{Step}
use Rattle.text.specs.Chain.{◌then◌}
use Rattle.text.specs.Fields.{Piece, a_word, a_number, see}
use Rattle.text.specs.declared.field.Field.{Field}
use Rattle.forms.specs.Narrow.{in8}
use Rattle.forms.specs.Tails.{step_in, pairs_in, steps_form}
use Rattle.forms.proofs.Gained.{regrouped}

-- half as many limits as there are fields; or wrong in form
pairs_told : (ps : List Piece) → (pairs_in ps ≡ Err Form) ⊎ ((ss : List Step) × (pairs_in ps ≡ Ok ss) × (2 * length ss ≡ length ps))
pairs_told [] = inr ([], refl, refl)
pairs_told (l ∷ []) = inl refl
pairs_told (a_word w ∷ p ∷ ps) = inl refl
pairs_told (a_number l ∷ a_word w ∷ ps) = inl refl
pairs_told (a_number l ∷ a_number p ∷ ps) = elim (pairs_told ps) [
  | inl e ↦ inl (rw e)
  | inr t ↦ inr (record { limit = l; percent = in8 p } ∷ t.0, rw t.1, omega (arith, t.2))
]

-- an odd one out, or more than three pairs
pub wrong_count : (fs : List Field) → ((n : ℕ) → n ≤ 3 → 2 * n ≡ length fs → ⊥) → Err Form ≡ steps_form (map see fs)
wrong_count fs h = elim (pairs_told (map see fs)) [
  | inl e ↦ rw e
  | inr t ↦ elim (cases_lt 3 (length t.0)) [
    | inl a ↦ rw (t.1, lt-ltb 3 (length t.0) a)
    | inr a ↦ absurd (h (length t.0) a (t.2 ∙ length-map fs see))
  ]
]

-- the first i pairs have been read
pub record PairedTo (fs : List Field) (i : ℕ) (each : List Step) : Type 0 where
  pub three : length each ≡ 3
  pub whole : pairs_in (map see fs) ≡ (pairs_in (map see (drop (2 * i) fs)) then λ ss. Ok (take i each ++ ss))

module _ {fs : List Field} {i : ℕ} {each : List Step} (so : PairedTo fs i each) where
  abbrev left : List Field → Result (List Step) Refusal
  left gs = pairs_in (map see gs) then λ ss. Ok (take i each ++ ss)

  module _ (d : Field) (inside : 2 * i + 1 < length fs) where
    next : left (drop (2 * i) fs) ≡ left (get_or fs (2 * i) d ∷ get_or fs (2 * i + 1) d ∷ drop (2 * (i + 1)) fs)
    next =
        at_drop_more left fs (2 * i) d (omega arith)
        ∙ at_drop_more (λ gs. left (get_or fs (2 * i) d ∷ gs)) fs (2 * i + 1) d inside
        ∙ ap (λ (k : ℕ). left (get_or fs (2 * i) d ∷ get_or fs (2 * i + 1) d ∷ drop k fs)) (omega arith)

    pub pair_more : (s : Step) → i < 3 → Ok s ≡ step_in (see (get_or fs (2 * i) d)) (see (get_or fs (2 * i + 1) d)) → PairedTo fs (i + 1) (set each i s)
    pair_more s room e =
        let n = so.three in
        let there : i < length each = omega arith in
        record {
          three = simp length-set n;
          whole = so.whole ∙ next ∙ rw (← e, take_more_set each i s there) (regrouped (pairs_in (map see (drop (2 * (i + 1)) fs))) (take i each) s);
        }

    pub pair_stops : (e : Refusal) → Err e ≡ step_in (see (get_or fs (2 * i) d)) (see (get_or fs (2 * i + 1) d)) → Err e ≡ steps_form (map see fs)
    pair_stops e is = rw (so.whole, next, ← is)

  pub pairs_all : length fs ≤ 2 * i → i ≤ 3 → Ok (take i each) ≡ steps_form (map see fs)
  pairs_all h few =
      let n = so.three in
      let pairs : pairs_in (map see fs) ≡ Ok (take i each) = so.whole ∙ rw (at_drop_all left fs (2 * i) h, append-nil) in
      let len : length (take i each) ≡ i = length-take-le i each (omega arith) in
      rw (pairs, len, le-ltb 3 i few)
