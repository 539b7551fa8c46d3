-- Tables with nothing traded.
use Rattle.std.proofs.Common.{◌≡◌, ℕ, ◌+◌, ◌*◌, true, List, map, get_or, pos, ◌+ℤ◌, None, Option, unwrap_or, vec_items, sym, refl, ap, ◌∙◌, ap₂, arith}
use Rattle.std.proofs.Math.ListN.{get_or-map}
use Rattle.std.proofs.lemmas.Simd.{map-map}
use Rattle.std.proofs.lemmas.Int.{ints}
use Rattle.std.proofs.lemmas.Bool.{and_parts, and_from}
use Rattle.terms.specs.Amounts.{no_amount}
use Rattle.terms.specs.Ranges.{holds_in}
use Rattle.terms.specs.declared.amounts.Amount.{Amount}
use Rattle.terms.specs.declared.bounds.Bounds.TheVariants.{Position, TradedValue}
use Rattle.books.specs.Cells.{opens_within, value_within, trades_within}
use Rattle.books.specs.State.{is_account, is_listing, account_place, listing_place, kind_of, cell_within}
use Rattle.contracts.specs.declared.kind.Kind.{Kind}
use Rattle.opening.specs.declared.opening.Opening.{Opening}
use Rattle.books.specs.declared.entry.Cell.{Cell}
use Rattle.ledger.specs.Places.{place_of, openings, CellsWithin}
use Rattle.ledger.specs.Starts.{untraded}
use Rattle.ledger.specs.Tied.{Untraded}

-- an opening amount alone is within the range of a cell
alone : (k : Kind) (x : Amount) → opens_within k x ≡ true → cell_within k (record { opening = x; traded = no_amount }) ≡ true
alone k x h =
    let parts = and_parts (holds_in Position x.quantity) (value_within k x.value) h in
    let same : x.quantity +ℤ pos 0 ≡ x.quantity = omega (arith, ints) in
    and_from (opens_within k x) (trades_within x no_amount) h (and_from (holds_in Position (x.quantity +ℤ pos 0)) (holds_in TradedValue (pos 0)) (ap (holds_in Position) same ∙ parts.0) refl)

-- the cells of an opening, with nothing traded
pub openings_of : (os : List (Option Amount)) (k : ℕ) → get_or (openings (map untraded os)) k no_amount ≡ unwrap_or (get_or os k None) no_amount
openings_of os k = ap (λ (ys : List Amount). get_or ys k no_amount) (map-map (λ (x : Cell). x.opening) untraded os) ∙ get_or-map (λ x. unwrap_or x no_amount) os k None

pub trades_of : (os : List (Option Amount)) → Untraded (map untraded os)
trades_of os k = ap (λ (ys : List Amount). get_or ys k no_amount) (map-map (λ (x : Cell). x.traded) untraded os) ∙ get_or-map (λ x. no_amount) os k None

pub untraded_within : (o : Opening) → CellsWithin (vec_items o.accounts.rows) (vec_items o.listings) (map untraded (vec_items o.amounts))
untraded_within o a c h =
    let xs = vec_items o.accounts.rows in
    let cs = vec_items o.listings in
    let os = vec_items o.amounts in
    let parts = and_parts (is_account a xs) (is_listing c cs) h in
    let p = place_of xs cs a c in
    let x = unwrap_or (get_or os p None) no_amount in
    let opens : opens_within (kind_of c cs) x ≡ true = ap (λ m. opens_within (kind_of c cs) (unwrap_or (get_or os (account_place a xs * m + listing_place c cs) None) no_amount)) (sym o.listings.ok.0) ∙ o.within a c parts in
    ap₂ (λ (y z : Amount). cell_within (kind_of c cs) (record { opening = y; traded = z })) (openings_of os p) (trades_of os p) ∙ alone (kind_of c cs) x opens
