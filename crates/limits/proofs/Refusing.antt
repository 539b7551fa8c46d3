-- What a layer refuses, from what its code reads.
use Rattle.std.proofs.Common.{◌≡◌, ℕ, Bool, true, false, ◌||◌, List, is_ok, Some, None, vec_items, Option, sym, refl, ap, ◌∙◌, ap₂}
use Rattle.books.specs.declared.entry.Call.{Call}
use Rattle.books.specs.declared.entry.Entry.{Entry}
use Rattle.books.specs.declared.entry.Listing.{Listing}
use Rattle.books.specs.declared.entry.Scope.{Scope}
use Rattle.books.specs.Answers.{answer, taken, changed}
use Rattle.books.specs.Shifts.{Movement, shift_by, entry_for}
use Rattle.books.specs.State.{State, Layer, Holding, Follows, is_listing}
use Rattle.limits.specs.Layers.{layer_of, own_over}
use Rattle.limits.specs.Sums.{limit_of, over_at, over_by}
use Rattle.limits.specs.declared.table.LimitTable.{LimitTable}
use Rattle.limits.proofs.Layering.{ok_conditions}
use Rattle.limits.proofs.Places.{limited_listed}
use Rattle.limits.proofs.Sums.{over_by_is, none_over}

-- the entry, the shift and the limit that were read for a call that the book below takes
module _ (w : Scope) (t : LimitTable) (call : Call) {h : Holding} {s : State} {e : Entry} {x : Movement} {limit : Option ℕ}
    (f : Follows h s) (ok : is_ok (answer s call) ≡ true) (entry : e ≡ entry_for s call) (shift : x ≡ shift_by e call)
    (read : limit ≡ limit_of (layer_of w t h.listings) h.listings x.contract) where
  abbrev own : Layer
  own = layer_of w t s.listings

  limit_is : limit ≡ limit_of own s.listings x.contract
  limit_is = read ∙ ap (λ (ls : List Listing). limit_of (layer_of w t ls) ls x.contract) f.listings

  pub has_listing : (most : ℕ) → limit ≡ Some most → is_listing x.contract s.listings ≡ true
  has_listing most is = limited_listed x.contract s.listings (vec_items t.limits) most (sym limit_is ∙ is)

  by_shift : own_over own s (taken s call) (changed s call) ≡ over_by own s x
  by_shift = over_by_is own s call f.apart (ok_conditions s call ok).2 ∙ ap (over_by own s) (sym (shift ∙ ap (λ (z : Entry). shift_by z call) entry))

  pub none_refused : limit ≡ None → false ≡ own_over own s (taken s call) (changed s call)
  none_refused is = sym (by_shift ∙ none_over own s x (sym limit_is ∙ is))

  refused_by : (most : ℕ) (out into : Bool) → limit ≡ Some most → out ≡ over_at (Some most) w s x x.from → into ≡ over_at (Some most) w s x x.to → (out || into) ≡ own_over own s (taken s call) (changed s call)
  refused_by most out into is a b =
      ap₂ (λ (p q : Bool). p || q) a b
      ∙ ap (λ (l : Option ℕ). over_at l w s x x.from || over_at l w s x x.to) (sym (sym limit_is ∙ is))
      ∙ sym by_shift

  -- the sum that the shift goes out of, and else the one that it goes into
  pub refused_out : (most : ℕ) (out : Bool) → limit ≡ Some most → out ≡ over_at (Some most) w s x x.from → out ≡ true → out ≡ own_over own s (taken s call) (changed s call)
  refused_out most out is a e =
      let into = over_at (Some most) w s x x.to in
      e ∙ ap (λ (b : Bool). b || into) (sym e) ∙ refused_by most out into is a refl

  pub refused_into : (most : ℕ) (out into : Bool) → limit ≡ Some most → out ≡ over_at (Some most) w s x x.from → into ≡ over_at (Some most) w s x x.to → out ≡ false → into ≡ own_over own s (taken s call) (changed s call)
  refused_into most out into is a b e = ap (λ (d : Bool). d || into) (sym e) ∙ refused_by most out into is a b
