use Rattle.std.proofs.Common.{◌≡◌, Bool, false, ltb, Some, None, Option, MatchOption, unwrap_or, vec_items, sym, ap, ◌∙◌, rules}
use Rattle.std.specs.List.{find}
use Rattle.std.specs.Option.{option_map}
use Rattle.books.specs.declared.entry.Listing.{Listing}
use Rattle.books.proofs.Rows.{listings, has, over_told}
use Rattle.ledger.proofs.tables.Tables.is_over.Goals as goal

-- an answer of the row, or false where there is none
told : {X : Type 0} {P : X → Type 0} (o : Option X) (g : X → Bool) (r : Bool) → MatchOption o (r ≡ false) P → ((x : X) → P x → r ≡ g x) → r ≡ unwrap_or (option_map g o) false
told None g r h f = h
told (Some x) g r h f = f x h

pub returns : goal.returns
returns c =
    let t = c.args.self.now in
    let over = λ (x : Listing). ltb x.registration.number t.date.number in
    told c.row_of.result over c.is_some_and.result c.is_some_and.ensures (λ x h. search rules)
    ∙ ap (λ (o : Option Listing). unwrap_or (option_map over o) false) (c.row_of.ensures ∙ ap (find (has listings c.args.contract)) c.deref.ensures.value)
    ∙ sym (over_told t.date.number c.args.contract (vec_items t.listings))
