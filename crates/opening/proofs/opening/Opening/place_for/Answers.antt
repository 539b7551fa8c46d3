use Rattle.std.proofs.Common.{◌≡◌, ℕ, ◌+◌, ◌*◌, ◌<◌, ◌≤◌, false, length, get_or, Some, None, Ok, Option, is_some, vec_items, vec_len, sym, refl, ap, ◌∙◌, ap₂, arith}
use Rattle.std.proofs.lemmas.List.{get_or_read}
use Rattle.std.proofs.lemmas.Bool.{and_from, not_from_true}
use Rattle.terms.specs.declared.amounts.Amount.{Amount}
use Rattle.opening.specs.Places.{place_of, Known}
use Rattle.opening.specs.Rows.{is_opened}
use Rattle.opening.specs.Rules.{row_within, suits_type, place_by}
use Rattle.opening.specs.declared.opening.Opening.{Opening}
use Rattle.opening.specs.declared.rows.Opened.{Opened}
use Rattle.opening.proofs.Keeping.{none_lowest, again_lowest, is_some_opened}
use Rattle.books.proofs.Rows.{accounts, listings, found, found_some}
use Rattle.opening.proofs.Placing.{place_inside}
use Rattle.opening.proofs.opening.Opening.place_for.Goals as goal

-- account and contract are known, so the place is theirs
placed : (s : Opening) (r : Opened) (i j m : ℕ) → Some i ≡ found accounts r.account (vec_items s.accounts.rows) → Some j ≡ found listings r.contract (vec_items s.listings) → m ≡ vec_len s.listings → Known (vec_items s.accounts.rows) (vec_items s.listings) r.account r.contract × (i * m + j ≡ place_of (vec_items s.accounts.rows) (vec_items s.listings) (vec_len s.listings) r.account r.contract) × (i * m + j < 32 * vec_len s.listings)
placed s r i j m f g w =
    let xs = vec_items s.accounts.rows in
    let a = found_some accounts r.account xs i f in
    let e = found_some listings r.contract (vec_items s.listings) j g in
    let at : i * m + j ≡ place_of xs (vec_items s.listings) (vec_len s.listings) r.account r.contract = ap₂ ◌+◌ (ap₂ ◌*◌ a.1 w) e.1 in
    let few : length xs ≤ 32 = omega (arith, s.accounts.few, s.accounts.rows.ok.0) in
    let low = place_inside xs (vec_items s.listings) (vec_len s.listings) r.account r.contract s.listings.ok.0 few (a.0, e.0) in
    ((a.0, e.0), at, omega arith)

-- the amount at the place tells whether there is a row
opened : (s : Opening) (r : Opened) (p : ℕ) (x : Option Amount) → Known (vec_items s.accounts.rows) (vec_items s.listings) r.account r.contract → p ≡ place_of (vec_items s.accounts.rows) (vec_items s.listings) (vec_len s.listings) r.account r.contract → p < 32 * vec_len s.listings → x ≡ get_or (vec_items s.amounts) p x → is_some x ≡ is_opened (vec_items s.rows.rows) r.account r.contract
opened s r p x known at low is =
    let lt : p < length (vec_items s.amounts) = omega (arith, s.amounts_long, s.amounts.ok.0) in
    ap is_some (get_or_read (vec_items s.amounts) p x lt is None ∙ ap (λ i. get_or (vec_items s.amounts) i None) at ∙ s.told r.account r.contract known) ∙ is_some_opened (vec_items s.rows.rows) r.account r.contract

at : (c : goal.After-len) → Known (vec_items c.args.self.now.accounts.rows) (vec_items c.args.self.now.listings) c.args.row.account c.args.row.contract × (c.in_ok-account.account * c.len.result + c.in_ok-contract.contract ≡ place_of (vec_items c.args.self.now.accounts.rows) (vec_items c.args.self.now.listings) (vec_len c.args.self.now.listings) c.args.row.account c.args.row.contract) × (c.in_ok-account.account * c.len.result + c.in_ok-contract.contract < 32 * vec_len c.args.self.now.listings)
at c = placed c.args.self.now c.args.row _ _ _ (sym c.in_ok-account.ensures.ok_part ∙ c.place_of_account.ensures) (sym c.in_ok-contract.ensures.ok_part ∙ c.place_of_listing-contract.ensures) c.len.ensures

pub overflow_mul-place : goal.overflow_mul-place
overflow_mul-place c = omega (arith, (at c).2, c.args.self.now.listings_few)

pub overflow_add-place : goal.overflow_add-place
overflow_add-place c = omega (arith, (at c).2, c.args.self.now.listings_few)

pub index-requires : goal.index-requires
index-requires c = omega (arith, (at c).2, c.args.self.now.amounts_long)

pub returns-then-is_some : goal.returns-then-is_some
returns-then-is_some c =
    let s = c.args.self.now in
    let r = c.args.row in
    let at = placed s r _ _ _ (sym c.in_ok-account.ensures.ok_part ∙ c.place_of_account.ensures) (sym c.in_ok-contract.ensures.ok_part ∙ c.place_of_listing-contract.ensures) c.len.ensures in
    let range = and_from (row_within r) (suits_type (vec_items s.listings) r) (sym c.if-not-is_within.ensures) (sym c.if-not-suits_type.ensures) in
    let again = sym (opened s r _ _ at.0 at.1 at.2 c.index.ensures) ∙ sym c.if-is_some.ensures in
    ap (place_by (place_of (vec_items s.accounts.rows) (vec_items s.listings) (vec_len s.listings) r.account r.contract)) (sym (again_lowest _ _ _ false (not_from_true _ range) (not_from_true _ (and_from _ _ at.0.0 at.0.1)) again))

pub returns : goal.returns
returns c =
    let s = c.args.self.now in
    let r = c.args.row in
    let at = placed s r _ _ _ (sym c.in_ok-account.ensures.ok_part ∙ c.place_of_account.ensures) (sym c.in_ok-contract.ensures.ok_part ∙ c.place_of_listing-contract.ensures) c.len.ensures in
    let range = and_from (row_within r) (suits_type (vec_items s.listings) r) (sym c.if-not-is_within.ensures) (sym c.if-not-suits_type.ensures) in
    let fresh = sym (opened s r _ _ at.0 at.1 at.2 c.index.ensures) ∙ sym c.if-is_some.ensures in
    ap Ok at.1 ∙ ap (place_by _) (sym (none_lowest _ _ _ _ (not_from_true _ range) (not_from_true _ (and_from _ _ at.0.0 at.0.1)) fresh (refl)))
