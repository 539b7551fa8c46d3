use Rattle.std.proofs.Common.{List, vec_items, refl, ap, ◌∙◌}
use Rattle.books.specs.declared.entry.Listing.{Listing}
use Rattle.contracts.specs.Rules.{answer_by}
use Rattle.tariff.specs.Views.{table_in}
use Rattle.opening.specs.Rules.{opening_refusal}
use Rattle.opening.specs.Views.{Said, listings_of}
use Rattle.file.specs.Meaning.{view_of}
use Rattle.file.specs.Says.{opening_by}
use Rattle.file.proofs.OfOpening.{opened_alike}
use Rattle.file.proofs.Rows.{added, taken}
use Rattle.file.proofs.adding.OpenedRow.add.Goals as goal

pub returns-clause-added : goal.returns-clause-added
returns-clause-added c =
    let s = c.args.reading.now in
    let o = s.opening in
    let v = view_of s in
    let row = c.in_ok-opening_form.field-0 in
    let refusal = λ (ls : List Listing). opening_refusal (vec_items o.accounts.rows) ls (vec_items o.rows.rows) row in
    added _ row (opening_by v) (refusal (listings_of (table_in s.draft))) _ _ _ c.in_ok-opening_form.ensures refl
    (c.add_opening.ensures.answer ∙ ap (λ (ls : List Listing). answer_by (refusal ls)) s.listed)
    (λ ok. let e = taken _ _ _ _ c.add_opening.ensures.said ok in opened_alike v _ _ _ _ _ _ (ap (λ (x : Said). x.accounts) e) (ap (λ (x : Said). x.rows) e) (ap (λ (x : Said). x.limits) e))
