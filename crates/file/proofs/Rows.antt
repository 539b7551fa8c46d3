-- A row that a table takes or refuses.
use Rattle.std.proofs.Common.{◌≡◌, Bool, true, cond, is_ok, Some, None, Ok, Err, vec_items, Option, Result, sym, refl, ap, ◌∙◌, subst, ap₂}
use Rattle.terms.specs.declared.refusal.Refusal.{Refusal}
use Rattle.calendar.specs.declared.load.Load.{Load}
use Rattle.contracts.specs.Rules.{answer_by}
use Rattle.contracts.specs.Views.{table_of}
use Rattle.text.specs.Chain.{◌then◌}
use Rattle.contracts.specs.declared.table.ContractTable.{ContractTable}
use Rattle.tariff.specs.Said.{Said}
use Rattle.file.specs.Meaning.{Added}
use Rattle.file.specs.Says.{by}
use Rattle.file.specs.View.{View, with_tariff}

-- what a form gives is taken or refused
pub added : {X : Type 0} (f : Result X Refusal) (row : X) (says : X → Result View Refusal) (o : Option Refusal) (x u : View) (r : Result (Unit {0}) Refusal) → Ok row ≡ f → says row ≡ by o x → r ≡ answer_by o → (is_ok r ≡ true → u ≡ x) → Added (f then says) r u
added f row says o x u r form e a taken = subst (λ s. Added s r u) (sym e ∙ ap (λ g. g then says) form) (refused_or o x u r a taken)
  where
    refused_or : (o : Option Refusal) (x u : View) (r : Result (Unit {0}) Refusal) → r ≡ answer_by o → (is_ok r ≡ true → u ≡ x) → Added (by o x) r u
    refused_or None x u r a f = subst (λ (y : Result (Unit {0}) Refusal). Added (Ok x) y u) (sym a) (ap Ok (sym (f (ap is_ok a))))
    refused_or (Some q) x u r a f = subst (λ (y : Result (Unit {0}) Refusal). Added (Err q) y u) (sym a) refl

-- what holds where a row was taken
pub taken : {X : Type 0} (r : Result (Unit {0}) Refusal) (z x y : X) → z ≡ cond (is_ok r) x y → is_ok r ≡ true → z ≡ x
taken r z x y e ok = e ∙ ap (λ (b : Bool). cond b x y) ok

-- a draft that keeps its contract table
pub same_contracts : (v : View) (c d : ContractTable Load) (s t : Said) → c ≡ d → s ≡ t → with_tariff v (vec_items c.instruments.rows) (table_of c, s) ≡ with_tariff v (vec_items d.instruments.rows) (table_of d, t)
same_contracts v c d s t e f = ap₂ (λ (x : ContractTable Load) (y : Said). with_tariff v (vec_items x.instruments.rows) (table_of x, y)) e f
