use Rattle.std.proofs.Common.{◌≡◌, ℕ, Bool, true, false, cond, Ok, Err, vec_items, Result, sym, refl, ap, ◌∙◌, subst, arith}
use Rattle.terms.specs.declared.refusal.Refusal.{Refusal}
use Rattle.terms.specs.declared.refusal.Refusal.TheVariants.{MissingRiskLine}
use Rattle.calendar.specs.declared.load.Load.{Load}
use Rattle.opening.specs.Views.{listings_of}
use Rattle.tariff.specs.Rules.{is_complete}
use Rattle.tariff.specs.Views.{table_in, said_of}
use Rattle.tariff.specs.declared.draft.Draft.{Draft}
use Rattle.terms.specs.Told.{Told}
use Rattle.terms.specs.declared.failure.Failure.{Failure}
use Rattle.terms.specs.declared.failure.Failure.TheVariants as failures
use Rattle.tariff.specs.declared.tariff.Tariff.{Tariff}
use Rattle.file.specs.File.{whole}
use Rattle.file.specs.Given.{given}
use Rattle.file.specs.Tells.{Tells, told_at}
use Rattle.file.specs.View.{with_tariff}
use Rattle.file.specs.declared.fault.Unread.{Unread}
use Rattle.file.specs.declared.reading.Reading.{Reading}
use Rattle.file.specs.Meaning.{view_of}
use Rattle.file.specs.Plan.{at}
use Rattle.file.proofs.filling.complete.Goals as goal

done : {X E : Type 0} (b : Bool) (x d : X) (m : E) → ◌≡◌ {A = Result X E} (Ok x) (cond b (Ok d) (Err m)) → (b ≡ true) × (x ≡ d)
done true x d m e = (refl, cc)
done false x d m e = absurd (let z : ◌≡◌ {A = ℕ} 0 1 = cc in omega arith)

undone : {X E : Type 0} (b : Bool) (q : E) (d : X) (m : E) → ◌≡◌ {A = Result X E} (Err q) (cond b (Ok d) (Err m)) → (b ≡ false) × (q ≡ m)
undone true q d m e = absurd (let z : ◌≡◌ {A = ℕ} 0 1 = cc in omega arith)
undone false q d m e = (refl, cc)

lacks : (r : Reading) (f : Failure) → Told (λ (x : Tariff Load). x.draft) (Err f) (cond (is_complete (table_in r.draft) (said_of r.draft).risks) (Ok r.draft) (Err MissingRiskLine)) → Tells given (Err (told_at 8 f)) (whole (view_of r))
lacks r (failures.Refused q) h =
    let u = undone (is_complete (table_in r.draft) (said_of r.draft).risks) q r.draft MissingRiskLine h in
    ap (λ (x : Refusal). Err (record { refusal = x; line = 8 })) u.1 ∙ sym (ap (λ (b : Bool). cond b (Ok (view_of r)) (at 8 (Err MissingRiskLine))) u.0)
lacks r failures.NoMemory h = tt

pub returns-in-Ok : goal.returns-in-Ok
returns-in-Ok c =
    let r = c.args.reading in
    let d = r.draft in
    let f = done (is_complete (table_in d) (said_of d).risks) c.in-Ok.tariff.draft d MissingRiskLine c.in-Ok.ensures.answer in
    record {
      value = ap (λ (x : Draft Load). Ok (with_tariff (view_of r) (vec_items x.contracts.instruments.rows) (table_in x, said_of x))) f.1 ∙ sym (ap (λ (b : Bool). cond b (Ok (view_of r)) (at 8 (Err MissingRiskLine))) f.0);
      matched = (r.listed ∙ ap (λ (x : Draft Load). listings_of (table_in x)) (sym f.1), r.dated ∙ ap (λ (x : Draft Load). (table_in x).date) (sym f.1));
    }

pub returns-in-Err : goal.returns-in-Err
returns-in-Err c =
    record {
      value = subst (λ (e : Unread). Tells given (Err e) (whole (view_of c.args.reading))) (sym c.at.ensures) (lacks c.args.reading c.in-Err.failure c.in-Err.ensures.answer);
      matched = tt;
    }
