-- What a shift makes of the sums that a layer looks at.
use Rattle.std.specs.Prelude.{ℕ, Bool, false, cond, ◌||◌, List, ℤ, pos, ◌+ℤ◌, neg_ℤ, Some, None, Option, ◌==◌, slice_index_or}
use Rattle.std.specs.List.{find}
use Rattle.books.specs.declared.entry.Account.{Account}
use Rattle.books.specs.declared.entry.Listing.{Listing}
use Rattle.books.specs.declared.entry.Scope.{Scope}
use Rattle.books.specs.declared.entry.Whose.{Whose}
use Rattle.books.specs.Shifts.{Movement}
use Rattle.books.specs.Limits.{is_of, held, sum_of, grows}
use Rattle.books.specs.State.{State, Layer, listing_place}

-- is it an account of the sum?
abbrev pub is_part : Whose → Option Account → Bool
is_part w None = false
is_part w (Some x) = is_of w x

abbrev pub belongs : Whose → Option ℕ → List Account → Bool
belongs w None xs = false
belongs w (Some a) xs = is_part w (find (λ x. x.number == a) xs)

-- what a shift adds to a sum of its contract
abbrev pub change : Whose → Movement → List Account → ℤ
change w h xs = cond (belongs w h.to xs) h.amount.quantity (pos 0) +ℤ neg_ℤ (cond (belongs w h.from xs) h.amount.quantity (pos 0))

abbrev pub held_after : State → Whose → Movement → ℤ
held_after s w h = held s w h.contract +ℤ change w h s.accounts

-- does the shift bring the sum of one of its two accounts over the limit?
abbrev pub over_at : Option ℕ → Scope → State → Movement → Option ℕ → Bool
over_at limit w s h None = false
over_at limit w s h (Some a) = grows limit (held s (sum_of w a s.accounts) h.contract) (held_after s (sum_of w a s.accounts) h)

-- the limit of a contract
abbrev pub limit_of : Layer → List Listing → ℕ → Option ℕ
limit_of y xs c = slice_index_or y.limits (listing_place c xs) None

abbrev pub over_by : Layer → State → Movement → Bool
over_by y s h = over_at (limit_of y s.listings h.contract) y.scope s h h.from || over_at (limit_of y s.listings h.contract) y.scope s h h.to
