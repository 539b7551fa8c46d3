-- A tariff with one row more keeps the rules.
use Rattle.std.proofs.Common.{◌≡◌, ℕ, Bool, true, false, cond, not, List, [], ◌∷◌, ◌++◌, map, length, get_or, take, ℤ, is_some, is_ok, Some, None, Ok, Err, Option, Result, sym, refl, subst, inl, inr, arith}
use Rattle.std.proofs.lemmas.List.{take-append-le, take_at, get_or_append_left, get_or_push, length_push, map_push}
use Rattle.std.proofs.lemmas.Bool.{cases_lt, not-false, and_from, and_parts, cond_both}
use Rattle.std.specs.List.{list_all}
use Rattle.terms.specs.Ranges.{holds_in}
use Rattle.terms.specs.declared.bounds.Bounds.TheVariants.{Price}
use Rattle.terms.specs.declared.refusal.Refusal.{Refusal}
use Rattle.terms.specs.declared.refusal.Refusal.TheVariants.{OutOfRange, UnknownReference}
use Rattle.contracts.proofs.Keeping.{passes}
use Rattle.contracts.specs.Lines.{Line, lines}
use Rattle.contracts.specs.Rules.{answer_by, instrument_refusal, contract_refusal}
use Rattle.contracts.specs.Table.{Table, Instr, Listed}
use Rattle.contracts.specs.Views.{plus_instrument, plus_contract}
use Rattle.tariff.specs.Ranges.{prices_hold, risk_holds}
use Rattle.tariff.specs.Rules.{spot_refusal, prices_refusal, is_among, rated_refusal, Kept, Keeps}
use Rattle.tariff.specs.Said.{Rated, Said}
use Rattle.tariff.specs.Views.{plus_spot, plus_prices}
use Rattle.tariff.specs.declared.rows.Prices.{Prices}
use Rattle.tariff.proofs.Naming.{among_instrument, among_contract}

-- ---- one row more
pub kept_more : {X : Type 0} (refusal : List X → X → Option Refusal) (xs : List X) (x : X) → Kept refusal xs → is_some (refusal xs x) ≡ false → Kept refusal (xs ++ x ∷ [])
kept_more refusal xs x kept h k d l = elim (cases_lt k (length xs)) [
  | inl a ↦ (
      let front : take k (xs ++ x ∷ []) ≡ take k xs = take-append-le k xs (x ∷ []) (omega arith) in
      let row : get_or (xs ++ x ∷ []) k d ≡ get_or xs k d = get_or_append_left xs (x ∷ []) d k a in
      rw (front, row) (kept k d a))
  | inr a ↦ (
      let n = length_push xs x in
      let at : length xs ≡ k = omega arith in
      rw (take_at xs (x ∷ []) k at, get_or_push xs x d k at) h)
]

-- what holds of the rows that were there holds of them and one more
pub rows_either : {X : Type 0} (P : List X → Type 0) (xs ys : List X) (x : X) (r : Result (Unit {0}) Refusal) → ys ≡ cond (is_ok r) (xs ++ x ∷ []) xs → P xs → (is_ok r ≡ true → P (xs ++ x ∷ [])) → P ys
rows_either P xs ys x r e was more = subst P (sym e) (cond_both (is_ok r) _ _ P more (λ _. was))

-- rows that stand for others
pub seen_more : {X Y : Type 0} (view : X → Y) (refusal : List Y → Y → Option Refusal) (xs ys : List X) (x : X) (r : Result (Unit {0}) Refusal) → ys ≡ cond (is_ok r) (xs ++ x ∷ []) xs → (is_ok r ≡ true → is_some (refusal (map view xs) (view x)) ≡ false) → Kept refusal (map view xs) → Kept refusal (map view ys)
seen_more view refusal xs ys x r e fits kept =
    rows_either (λ (zs : List _). Kept refusal (map view zs)) xs ys x r e kept (λ ok. subst (Kept refusal) (sym (map_push view xs x)) (kept_more refusal (map view xs) (view x) kept (fits ok)))

pub all_push : {X : Type 0} (p : X → Bool) (xs : List X) (x : X) → list_all p xs ≡ true → p x ≡ true → list_all p (xs ++ x ∷ []) ≡ true
all_push p [] x h e = rw e
all_push p (y ∷ xs) x h e = let a = and_parts (p y) (list_all p xs) h in and_from (p y) _ a.0 (all_push p xs x a.1 e)

-- ---- a table with more lines
module _ (t t' : Table) (more : (l : Line) → is_among l (lines t) ≡ true → is_among l (lines t') ≡ true) where
  still_rated : (rs : List Rated) (r : Rated) → is_some (rated_refusal t rs r) ≡ false → is_some (rated_refusal t' rs r) ≡ false
  still_rated rs r h =
      let a = passes (not (risk_holds r.risk)) OutOfRange _ h in
      let b = passes (not (is_among r.line (lines t))) UnknownReference _ a.1 in
      let there = more r.line (not-false _ b.0) in
      rw (not-false _ a.0, there) b.1

  pub still_kept : (rs : List Rated) → Kept (rated_refusal t) rs → Kept (rated_refusal t') rs
  still_kept rs kept k d l = still_rated (take k rs) (get_or rs k d) (kept k d l)

-- ---- an instrument with its spot price
pub keeps_spot : (t : Table) (s : Said) (i : Instr) (x : ℤ) → Keeps t s → is_some (spot_refusal t i.number x) ≡ false → Keeps (plus_instrument t i) (plus_spot s x)
keeps_spot t s i x k h =
    let a = passes (not (holds_in Price x)) OutOfRange (instrument_refusal t.instruments i.number) h in
    let n = length_push s.spots x in
    let m = length_push t.instruments i in
    let e = k.spots_each in
    record {
      spots_each = omega arith;
      spots_hold = all_push (holds_in Price) s.spots x k.spots_hold (not-false _ a.0);
      prices_each = k.prices_each;
      all_prices_hold = k.all_prices_hold;
      risks_kept = still_kept t (plus_instrument t i) (among_instrument t i) s.risks k.risks_kept;
      ranges_kept = k.ranges_kept;
      credits_kept = k.credits_kept;
    }

-- ---- a contract with its prices
pub keeps_prices : (t : Table) (s : Said) (c : Listed) (p : Prices) → Keeps t s → is_some (prices_refusal t c p) ≡ false → Keeps (plus_contract t c) (plus_prices s p)
keeps_prices t s c p k h =
    let a = passes (not (prices_hold p)) OutOfRange (contract_refusal t c) h in
    let n = length_push s.prices p in
    let m = length_push t.contracts c in
    let e = k.prices_each in
    record {
      spots_each = k.spots_each;
      spots_hold = k.spots_hold;
      prices_each = omega arith;
      all_prices_hold = all_push prices_hold s.prices p k.all_prices_hold (not-false _ a.0);
      risks_kept = still_kept t (plus_contract t c) (among_contract t c) s.risks k.risks_kept;
      ranges_kept = k.ranges_kept;
      credits_kept = k.credits_kept;
    }

-- ---- after a row that may be refused
abbrev pub BothKeep : Table × Said → Type 0
BothKeep d = Keeps d.0 d.1

-- what was there, or one row more
pub keep_either : (r : Result (Unit {0}) Refusal) (o : Option Refusal) (new old : Table × Said) → r ≡ answer_by o → BothKeep old → (is_some o ≡ false → BothKeep new) → BothKeep (cond (is_ok r) new old)
keep_either r None new old e k more = rw e (more refl)
keep_either r (Some x) new old e k more = rw e k

module _ (t t' : Table) (s : Said) (f : ℕ → List Rated) (at : f t.date ≡ s.risks) where
  pub with_spot : (i : Instr) (x : ℤ) (xs : List ℤ) (r : Result (Unit {0}) Refusal) → t' ≡ cond (is_ok r) (plus_instrument t i) t → xs ≡ cond (is_ok r) (s.spots ++ x ∷ []) s.spots
      → ◌≡◌ {A = Table × Said} (t', record { settled = s.settled; spots = xs; prices = s.prices; risks = f t'.date; ranges = s.ranges; credits = s.credits }) (cond (is_ok r) (plus_instrument t i, plus_spot s x) (t, s))
  with_spot i x xs (Ok u) e h = rw (e, h, at)
  with_spot i x xs (Err y) e h = rw (e, h, at)

  pub with_prices : (c : Listed) (p : Prices) (ps : List Prices) (r : Result (Unit {0}) Refusal) → t' ≡ cond (is_ok r) (plus_contract t c) t → ps ≡ cond (is_ok r) (s.prices ++ p ∷ []) s.prices
      → ◌≡◌ {A = Table × Said} (t', record { settled = s.settled; spots = s.spots; prices = ps; risks = f t'.date; ranges = s.ranges; credits = s.credits }) (cond (is_ok r) (plus_contract t c, plus_prices s p) (t, s))
  with_prices c p ps (Ok u) e h = rw (e, h, at)
  with_prices c p ps (Err y) e h = rw (e, h, at)
