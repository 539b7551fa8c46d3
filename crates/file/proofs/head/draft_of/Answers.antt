use Rattle.std.proofs.lemmas.Result.{err_from_is_err_and}
use Rattle.std.proofs.Common.{◌≡◌, ℕ, Bool, true, false, cond, List, [], Ok, Err, Result, refl, ap, subst, arith}
use Rattle.terms.specs.Told.{Told}
use Rattle.terms.specs.declared.failure.Failure.{Failure}
use Rattle.terms.specs.declared.failure.Failure.TheVariants.{Refused, NoMemory}
use Rattle.terms.specs.declared.refusal.Refusal.{Refusal}
use Rattle.calendar.specs.declared.load.Load.{Load}
use Rattle.contracts.specs.Rules.{dates_answer}
use Rattle.contracts.specs.Table.{Table}
use Rattle.text.specs.Chain.{◌then◌}
use Rattle.text.specs.Fields.{Piece}
use Rattle.tariff.specs.Settlements.{is_final}
use Rattle.tariff.specs.Views.{draft_of, empty_by, no_rows}
use Rattle.tariff.specs.declared.draft.Draft.{Draft}
use Rattle.forms.specs.declared.section.Section.TheVariants.{Head}
use Rattle.file.specs.Meaning.{draft_view}
use Rattle.file.specs.Says.{head_days, line_says}
use Rattle.file.specs.View.{no_view, with_tariff}
use Rattle.file.proofs.OfDraft.{no_instruments, tariff_alike}
use Rattle.file.proofs.head.draft_of.Goals as goal

-- a draft of a table without instruments is read as the head
on_table : (r : Result (Draft Load) Failure) (b : Bool) (t : Table) → t.instruments ≡ [] → Told draft_of r (Ok (t, no_rows b)) → Told draft_view r (Ok (with_tariff no_view [] (t, no_rows b)))
on_table (Ok d) b t none e =
    let same : draft_of d ≡ (t, no_rows b) = cc in
    ap Ok (tariff_alike no_view _ _ _ _ (no_instruments d t (no_rows b) same none) same)
on_table (Err (Refused q)) b t none e = absurd (let z : ◌≡◌ {A = ℕ} 0 1 = cc in omega arith)
on_table (Err NoMemory) b t none e = tt

refused : (r : Result (Draft Load) Failure) (q : Refusal) → Told draft_of r (Err q) → Told draft_view r (Err q)
refused (Ok d) q e = absurd (let z : ◌≡◌ {A = ℕ} 0 1 = cc in omega arith)
refused (Err (Refused p)) q e = let same : p ≡ q = cc in ap Err same
refused (Err NoMemory) q e = tt

drafted : (r : Result (Draft Load) Failure) (b c : Bool) (t : Table) (q : Refusal) → t.instruments ≡ [] → Told draft_of r (empty_by b (cond c (Ok t) (Err q))) → Told draft_view r (cond c (Ok t) (Err q) then λ t. Ok (with_tariff no_view [] (t, no_rows b)))
drafted r b true t q none e = on_table r b t none e
drafted r b false t q none e = refused r q e

on_head : (ps : List Piece) (d : ℕ × ℕ × Bool) → Ok d ≡ head_days ps → (r : Result (Draft Load) Failure) → Told draft_view r (dates_answer d.0 d.1 then λ t. Ok (with_tariff no_view [] (t, no_rows d.2))) → Told draft_view r (line_says Head no_view ps)
unfolding line_says
on_head ps d e r h = subst (λ (s : Result (ℕ × ℕ × Bool) Refusal). Told draft_view r (s then λ x. dates_answer x.0 x.1 then λ t. Ok (with_tariff no_view [] (t, no_rows x.2)))) e h

no_days : (ps : List Piece) (q : Refusal) → Err q ≡ head_days ps → Err q ≡ line_says Head no_view ps
unfolding line_says
no_days ps q e = ap (λ (s : Result (ℕ × ℕ × Bool) Refusal). s then λ x. dates_answer x.0 x.1 then λ t. Ok (with_tariff no_view [] (t, no_rows x.2))) e

pub returns-in_err-date : goal.returns-in_err-date
returns-in_err-date c =
    let p = err_from_is_err_and c.from_residual.result c.from_residual.ensures.1 in
    rw (p.1, p.2) (no_days _ _ c.in_err-date.ensures)

pub returns : goal.returns
returns c =
    let d = c.in_ok-date in
    on_head _ (d.date.number, d.horizon.number, is_final d.settlement) d.ensures c.new.result (drafted c.new.result (is_final d.settlement) _ _ _ refl c.new.ensures)
