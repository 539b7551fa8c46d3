-- A table with one row more keeps the rules.
use Rattle.std.proofs.Common.{◌≡◌, ℕ, ◌<◌, Bool, true, false, cond, not, ◌&&◌, eqb, leb, List, [], ◌∷◌, ◌++◌, length, get_or, take, pos, is_some, is_ok, Some, None, Ok, Err, Option, Result, map, sym, refl, ap, subst, ◌∙◌, inl, inr, arith}
use Rattle.std.proofs.lemmas.List.{take-append-le, take_at, get_or_append_left, get_or_push, length_push, map_push}
use Rattle.std.proofs.lemmas.Bool.{cases_lt, cases_Bool, not-false, cond-true, cond-false, false≢true, leb-false, cond_both}
use Rattle.terms.specs.Ranges.{holds_in}
use Rattle.terms.specs.declared.bounds.Bounds.TheVariants.{Contract, Instrument}
use Rattle.terms.specs.declared.refusal.Refusal.{Refusal}
use Rattle.terms.specs.declared.refusal.Refusal.TheVariants.{OutOfRange, UnknownReference, RepeatedKey, DateRule, TooLong}
use Rattle.contracts.specs.Table.{Instr, Listed, Table, size, blank, kind_in}
use Rattle.contracts.specs.Rows.{instr, listed}
use Rattle.contracts.specs.Rules.{answer_by, instrument_refusal, terms_refusal, contract_refusal, is_numbered, is_repeated, keeps_dates, up_to, InstrumentsKept, ContractsKept}
use Rattle.contracts.specs.Views.{plus_instrument, plus_contract}
use Rattle.contracts.specs.declared.contract.Contract.{Contract as Row}
use Rattle.contracts.specs.declared.contract.Instrument.{Instrument as Deal}

-- ---- a chain of refusals
pub passes : (b : Bool) (e : Refusal) (o : Option Refusal) → is_some (cond b (Some e) o) ≡ false → (b ≡ false) × (is_some o ≡ false)
passes true e o h = absurd (false≢true (sym h))
passes false e o h = (refl, h)

pub record Passes (t : Table) (c : Listed) : Type 0 where
  pub numbered : (holds_in Contract (pos c.number) && holds_in Instrument (pos c.instrument)) ≡ true
  pub known : is_numbered c.instrument t.instruments ≡ true
  pub apart : is_repeated c t.contracts ≡ false
  pub dated : keeps_dates t c ≡ true
  pub few : leb 128 (size t) ≡ false

pub passes_all : (t : Table) (c : Listed) → is_some (contract_refusal t c) ≡ false → Passes t c
passes_all t c h =
    let a = passes (not (holds_in Contract (pos c.number) && holds_in Instrument (pos c.instrument))) OutOfRange _ h in
    let b = passes (not (is_numbered c.instrument t.instruments)) UnknownReference _ a.1 in
    let d = passes (is_repeated c t.contracts) RepeatedKey _ b.1 in
    let e = passes (not (keeps_dates t c)) DateRule _ d.1 in
    let f = passes (leb 128 (size t)) TooLong None e.1 in
    record { numbered = not-false _ a.0; known = not-false _ b.0; apart = d.0; dated = not-false _ e.0; few = f.0 }

-- whether there is room is asked last
pub by_terms : (t : Table) (c : Listed) (y : Refusal) → terms_refusal t c ≡ Some y → contract_refusal t c ≡ Some y
by_terms t c y h = grind arith

pub by_room : (t : Table) (c : Listed) → terms_refusal t c ≡ None → contract_refusal t c ≡ cond (leb 128 (size t)) (Some TooLong) None
by_room t c h = grind arith

pub answered : (t : Table) (c : Listed) (n : ℕ) (r : Result (Unit {0}) Refusal) → size t ≡ n → terms_refusal t c ≡ None → r ≡ cond (leb 128 n) (Err TooLong) (Ok tt) → r ≡ answer_by (contract_refusal t c)
answered t c n r e h is = grind (arith, by_room t c h)

-- an answer that all is well
pub unrefused : (o : Option Refusal) → is_ok (answer_by o) ≡ true → is_some o ≡ false
unrefused None h = refl
unrefused (Some x) h = absurd (false≢true h)

-- ---- what an answer tells
pub none_told : (o : Option Refusal) → Ok tt ≡ answer_by o → o ≡ None
none_told None e = refl
none_told (Some x) e = cc

pub some_told : (y : Refusal) (o : Option Refusal) → Err y ≡ answer_by o → o ≡ Some y
some_told y None e = cc
some_told y (Some x) e = cc

pub few_lt : (t : Table) (c : Listed) → is_some (contract_refusal t c) ≡ false → size t < 128
few_lt t c h = leb-false 128 (size t) (passes_all t c h).few

-- ---- one contract more
pub contracts_more : (t : Table) (c : Listed) → ContractsKept t → is_some (contract_refusal t c) ≡ false → ContractsKept (plus_contract t c)
contracts_more t c kept h k l = elim (cases_lt k (size t)) [
  | inl a ↦ (
      let same-front : take k (t.contracts ++ c ∷ []) ≡ take k t.contracts = take-append-le k t.contracts (c ∷ []) (omega arith) in
      let same_row : get_or (t.contracts ++ c ∷ []) k blank ≡ get_or t.contracts k blank = get_or_append_left t.contracts (c ∷ []) blank k a in
      rw (same-front, same_row) (kept k a))
  | inr a ↦ (
      let n = length_push t.contracts c in
      let at : length t.contracts ≡ k = omega arith in
      rw (take_at t.contracts (c ∷ []) k at, get_or_push t.contracts c blank k at) h)
]

-- ---- one instrument more
pub instruments_more : (is : List Instr) (i : Instr) → InstrumentsKept is → is_some (instrument_refusal is i.number) ≡ false → InstrumentsKept (is ++ i ∷ [])
instruments_more is i kept h k d l = elim (cases_lt k (length is)) [
  | inl a ↦ (
      let same-front : take k (is ++ i ∷ []) ≡ take k is = take-append-le k is (i ∷ []) (omega arith) in
      let same_row : get_or (is ++ i ∷ []) k d ≡ get_or is k d = get_or_append_left is (i ∷ []) d k a in
      rw (same-front, same_row) (kept k d a))
  | inr a ↦ (
      let n = length_push is i in
      let at : length is ≡ k = omega arith in
      rw (take_at is (i ∷ []) k at, get_or_push is i d k at) h)
]

kind_still : (is : List Instr) (i : Instr) (u : ℕ) → is_numbered u is ≡ true → kind_in (is ++ i ∷ []) u ≡ kind_in is u
kind_still [] i u h = absurd (false≢true h)
kind_still (j ∷ is) i u h = elim (cases_Bool (eqb j.number u)) [
  | inl a ↦ cond-true _ (Some j.kind) _ a ∙ sym (cond-true _ (Some j.kind) _ a)
  | inr a ↦ (
      let below : is_numbered u is ≡ true = sym (ap is_some (cond-false (eqb j.number u) (Some j.kind) (kind_in is u) a)) ∙ h in
      cond-false _ (Some j.kind) _ a ∙ kind_still is i u below ∙ sym (cond-false _ (Some j.kind) _ a))
]

pub contracts_still : (t : Table) (i : Instr) → ContractsKept t → ContractsKept (plus_instrument t i)
contracts_still t i kept k l =
    let c = get_or t.contracts k blank in
    let p = passes_all (up_to k t) c (kept k l) in
    let same : kind_in (t.instruments ++ i ∷ []) c.instrument ≡ kind_in t.instruments c.instrument = kind_still t.instruments i c.instrument p.known in
    rw same (kept k l)

pub instrument_answered : (is : List Instr) (u n : ℕ) (r : Result (Unit {0}) Refusal) → length is ≡ n → holds_in Instrument (pos u) ≡ true → is_numbered u is ≡ false → r ≡ cond (leb 8 n) (Err TooLong) (Ok tt) → r ≡ answer_by (instrument_refusal is u)
instrument_answered is u n r e a b h = grind arith

-- ---- after a row that may be refused
module _ (date horizon : ℕ) where
  abbrev with_rows : List Instr → List Listed → Table
  with_rows is cs = record { date = date; horizon = horizon; instruments = is; contracts = cs }

  pub contract_added : (is : List Instr) (cs ds : List Row) (c : Row) (r : Result (Unit {0}) Refusal) → r ≡ answer_by (contract_refusal (with_rows is (map listed cs)) (listed c)) → ds ≡ cond (is_ok r) (cs ++ c ∷ []) cs → ContractsKept (with_rows is (map listed cs)) → ContractsKept (with_rows is (map listed ds))
  contract_added is cs ds c r a e kept =
      let t = with_rows is (map listed cs) in
      let P = λ (ks : List Row). ContractsKept (with_rows is (map listed ks)) in
      let more = λ (ok : is_ok r ≡ true). subst (λ (ks : List Listed). ContractsKept (with_rows is ks)) (sym (map_push listed cs c)) (contracts_more t (listed c) kept (unrefused _ (sym (ap is_ok a) ∙ ok))) in
      subst P (sym e) (cond_both (is_ok r) _ _ P more (λ _. kept))

  module _ {P : Type 0} (is js : List (Deal P)) (i : Deal P) (r : Result (Unit {0}) Refusal) (a : r ≡ answer_by (instrument_refusal (map instr is) i.number)) (e : js ≡ cond (is_ok r) (is ++ i ∷ []) is) where
    pub instrument_added : InstrumentsKept (map instr is) → InstrumentsKept (map instr js)
    instrument_added kept =
        let more = λ (ok : is_ok r ≡ true). subst InstrumentsKept (sym (map_push instr is i)) (instruments_more (map instr is) (instr i) kept (unrefused _ (sym (ap is_ok a) ∙ ok))) in
        subst (λ ks. InstrumentsKept (map instr ks)) (sym e) (cond_both (is_ok r) _ _ (λ ks. InstrumentsKept (map instr ks)) more (λ _. kept))

    pub contracts_stay : (cs : List Listed) → ContractsKept (with_rows (map instr is) cs) → ContractsKept (with_rows (map instr js) cs)
    contracts_stay cs kept =
        let Q = λ (ks : List (Deal P)). ContractsKept (with_rows (map instr ks) cs) in
        let more = λ (ok : is_ok r ≡ true). subst (λ (ks : List Instr). ContractsKept (with_rows ks cs)) (sym (map_push instr is i)) (contracts_still (with_rows (map instr is) cs) (instr i) kept) in
        subst Q (sym e) (cond_both (is_ok r) _ _ Q more (λ _. kept))
