use Rattle.std.proofs.Common.{◌≡◌, ℕ, ◌<◌, Bool, true, false, cond, List, Some, None, Ok, Err, vec_items, Option, Result, sym, refl, ap, ◌∙◌, ap₂, subst, arith}
use Rattle.std.proofs.lemmas.List.{length-map, length_push, get_or_push}
use Rattle.std.proofs.lemmas.Bool.{eq-eqb, ne_eqb}
use Rattle.std.proofs.lemmas.Result.{err_from_is_err_and}
use Rattle.terms.specs.declared.refusal.Refusal.{Refusal}
use Rattle.terms.specs.declared.refusal.Refusal.TheVariants.{NoHours}
use Rattle.calendar.specs.Loads.{load_mask}
use Rattle.calendar.specs.declared.load.Load.{Load}
use Rattle.contracts.specs.Hours.{mask_in, contract_hours}
use Rattle.contracts.specs.Rows.{listed, said_in}
use Rattle.contracts.specs.Rules.{answer_by}
use Rattle.contracts.specs.Table.{Listed, Table, size, nth, blank}
use Rattle.contracts.specs.Views.{plus_contract}
use Rattle.contracts.specs.declared.contract.Instrument.{Instrument}
use Rattle.text.specs.Chain.{◌then◌}
use Rattle.tariff.specs.Rules.{prices_refusal}
use Rattle.tariff.specs.Said.{Said}
use Rattle.tariff.specs.Views.{table_in}
use Rattle.tariff.specs.declared.rows.Prices.{Prices}
use Rattle.file.specs.Meaning.{draft_view, Added}
use Rattle.file.specs.Says.{by, lacks_hours, plus_contract_row, contract_by}
use Rattle.file.specs.View.{View, no_view}
use Rattle.file.proofs.OfDraft.{tariff_alike}
use Rattle.file.proofs.adding_contracts.add_terms.Goals as goal

-- taken or refused by the table
none_of : (o : Option Refusal) → Ok tt ≡ answer_by o → o ≡ None
none_of None e = refl
none_of (Some q) e = absurd (let z : ◌≡◌ {A = ℕ} 0 1 = cc in omega arith)

some_of : (o : Option Refusal) (q : Refusal) → Err q ≡ answer_by o → o ≡ Some q
some_of None q e = absurd (let z : ◌≡◌ {A = ℕ} 0 1 = cc in omega arith)
some_of (Some p) q e = let same : p ≡ q = cc in ap Some same

by_hours : (v : View) (p : Prices) (c : Listed) (b : Bool) → prices_refusal v.table c p ≡ None → lacks_hours v c ≡ b → contract_by v p c ≡ cond b (Err NoHours) (Ok (plus_contract_row v c p))
by_hours v p c b e h = ap₂ (λ (o : Option Refusal) (l : Bool). by o (plus_contract_row v c p) then λ u. cond l (Err NoHours) (Ok u)) e h

-- the contract that was added last
is_at_end : (t u : Table) (c : Listed) (n : ℕ) → u ≡ plus_contract t c → n ≡ size t → (n < size u) × (nth u n ≡ c)
is_at_end t u c n e k =
    let l = ap size e ∙ length_push t.contracts c in
    (omega arith, ap (λ (x : Table). nth x n) e ∙ get_or_push t.contracts c blank n (sym k))

-- its hours
hours : (is js : List (Instrument Load)) (t u : Table) (c : Listed) (n h : ℕ) → js ≡ is → u ≡ plus_contract t c → n ≡ size t → (n < size u → h ≡ contract_hours (mask_in load_mask js) (nth u n)) → h ≡ contract_hours (mask_in load_mask is) c
hours is js t u c n h same e k f =
    let there = is_at_end t u c n e k in
    f there.0 ∙ ap₂ (λ (xs : List (Instrument Load)) (d : Listed). contract_hours (mask_in load_mask xs) d) same there.1

pub returns-in_err-add_contract : goal.returns-in_err-add_contract
returns-in_err-add_contract c =
    let s = c.args.draft.now in
    let v = draft_view s in
    let k = said_in c.args.terms in
    let p = err_from_is_err_and c.from_residual.result c.from_residual.ensures.1 in
    let q = some_of (prices_refusal (table_in s) k c.args.prices) _ c.in_err-add_contract.ensures.answer in
    subst (λ (r : Result (Unit {0}) Refusal). Added (contract_by v c.args.prices k) r (draft_view c.add_contract.new.self)) (sym (p.1 ∙ ap Err p.2))
    (ap (λ (o : Option Refusal). by o (plus_contract_row v k c.args.prices) then λ u. cond (lacks_hours v k) (Err NoHours) (Ok u)) q)

pub returns-then-hours_at-eq0 : goal.returns-then-hours_at-eq0
returns-then-hours_at-eq0 c =
    let s = c.args.draft.now in
    let v = draft_view s in
    let k = said_in c.args.terms in
    let add = c.in_ok-add_contract.ensures in
    let none = none_of (prices_refusal (table_in s) k c.args.prices) add.answer in
    let n = c.len-place.ensures ∙ s.contracts.contracts.rows.ok.0 ∙ sym (length-map (vec_items s.contracts.contracts.rows) listed) in
    let h = hours v.instruments _ v.table _ k c.len-place.result c.hours_at.result add.profiles (ap (λ (p : Table × Said). p.0) add.draft) n c.hours_at.ensures in
    by_hours v c.args.prices k true none (eq-eqb _ 0 (sym h ∙ c.if-hours_at-eq0.true))

pub returns : goal.returns
returns c =
    let s = c.args.draft.now in
    let v = draft_view s in
    let k = said_in c.args.terms in
    let add = c.in_ok-add_contract.ensures in
    let none = none_of (prices_refusal (table_in s) k c.args.prices) add.answer in
    let n = c.len-place.ensures ∙ s.contracts.contracts.rows.ok.0 ∙ sym (length-map (vec_items s.contracts.contracts.rows) listed) in
    let h = hours v.instruments _ v.table _ k c.len-place.result c.hours_at.result add.profiles (ap (λ (p : Table × Said). p.0) add.draft) n c.hours_at.ensures in
    by_hours v c.args.prices k false none (ne_eqb _ 0 (λ e. c.if-hours_at-eq0.false (h ∙ e))) ∙ ap Ok (sym (tariff_alike no_view _ _ _ _ add.profiles add.draft))
