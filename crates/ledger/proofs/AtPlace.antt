-- What a read of a cell gives.
use Rattle.std.proofs.Common.{◌≡◌, ℕ, ◌+◌, ◌*◌, ◌<◌, ◌≤◌, Bool, true, false, cond, length, get_or, Some, None, vec_items, vec_len, sym, refl, ap, ◌∙◌, subst, ap₂, arith}
use Rattle.std.proofs.Math.ListN.{get_or-map}
use Rattle.std.proofs.lemmas.Nat.{mul-add-lt}
use Rattle.std.proofs.lemmas.List.{get_or_read_under}
use Rattle.std.proofs.lemmas.Bool.{and_parts, and_from}
use Rattle.terms.specs.Amounts.{no_amount, amount_plus}
use Rattle.terms.specs.declared.amounts.Amount.{Amount}
use Rattle.books.specs.Cells.{trades_within}
use Rattle.books.specs.State.{is_account, is_listing, account_place, listing_place, kind_of}
use Rattle.books.specs.declared.entry.Cell.{Cell}
use Rattle.books.proofs.Rows.{listings, place_under}
use Rattle.opening.proofs.Placing.{place_inside}
use Rattle.ledger.specs.Places.{place_of}
use Rattle.ledger.specs.Views.{opening, traded, is_in, bears_at, holding_of, nobody}
use Rattle.ledger.specs.declared.tables.Tables.{Tables}
use Rattle.ledger.proofs.Summing.{at_place}
use Rattle.ledger.proofs.Ranges.{Sizes, cell_sizes}

abbrev pub no_cell : Cell
no_cell = record { opening = no_amount; traded = no_amount }

-- what was found is there
pub is_there : (t : Bool) (k n : ℕ) → Some n ≡ cond t (Some k) None → (t ≡ true) × (n ≡ k)
is_there true k n e = (refl, cc)
is_there false k n e = absurd cc

-- what stands at the place of an account and a contract
pub read : (t : Tables) (a c i : ℕ) → i ≡ place_of (vec_items t.accounts) (vec_items t.listings) a c → i < 32 * vec_len t.listings → (x : Cell) → x ≡ get_or (vec_items t.cells) i x → x ≡ (holding_of t).cell a c
read t a c i e low x r =
    let ys = vec_items t.cells in
    let p = place_of (vec_items t.accounts) (vec_items t.listings) a c in
    get_or_read_under ys i (vec_len t.cells) x no_cell r (omega (arith, t.sized)) t.cells.ok.0 ∙ ap (λ k. get_or ys k no_cell) e
    ∙ ap₂ (λ (o y : Amount). record { opening = o; traded = y }) (sym (get_or-map (λ (x : Cell). x.opening) ys p no_cell)) (sym (get_or-map (λ (x : Cell). x.traded) ys p no_cell))

pub sizes_in : (t : Tables) (a c : ℕ) → is_in t a c ≡ true → Sizes ((holding_of t).cell a c)
sizes_in t a c h = cell_sizes (kind_of c (vec_items t.listings)) ((holding_of t).cell a c) (t.within a c h)

-- a cell that was found and read
pub record At (t : Tables) (a c i : ℕ) (x : Cell) : Type 0 where
  pub listed : is_in t a c ≡ true
  pub place : i ≡ place_of (vec_items t.accounts) (vec_items t.listings) a c
  pub stored : x ≡ get_or (vec_items t.cells) i no_cell
  pub cell : x ≡ (holding_of t).cell a c
  pub sizes : Sizes x

pub found_at : (t : Tables) (a c i : ℕ) (x : Cell) → Some i ≡ cond (is_in t a c) (Some (place_of (vec_items t.accounts) (vec_items t.listings) a c)) None → i < 32 * vec_len t.listings → x ≡ get_or (vec_items t.cells) i x → At t a c i x
found_at t a c i x e low r =
    let there = is_there (is_in t a c) (place_of (vec_items t.accounts) (vec_items t.listings) a c) i e in
    let cell = read t a c i there.1 low x r in
    record { listed = there.0; place = there.1; stored = get_or_read_under (vec_items t.cells) i (vec_len t.cells) x no_cell r (omega (arith, t.sized)) t.cells.ok.0; cell = cell; sizes = subst (λ (y : Cell). Sizes y) (sym cell) (sizes_in t a c there.0) }

-- a cell that bears an amount has it within its range
pub borne : (t : Tables) (a c : ℕ) (by : Amount) → is_in t a c ≡ true → bears_at t a c by ≡ true → trades_within (opening t a c) (amount_plus (traded t a c) by) ≡ true
borne t a c by h e = sym (ap (λ (b : Bool). cond b (trades_within (opening t a c) (amount_plus (traded t a c) by)) false) h) ∙ e

-- the place of a listed pair lies within
pub place_low : (t : Tables) (a c : ℕ) → is_in t a c ≡ true → place_of (vec_items t.accounts) (vec_items t.listings) a c < length (vec_items t.cells)
place_low t a c h =
    let xs = vec_items t.accounts in
    let cs = vec_items t.listings in
    let p = and_parts (is_account a xs) (is_listing c cs) h in
    let low = place_inside xs cs (length cs) a c refl (omega (arith, t.few, t.accounts.ok.0)) p in
    omega (arith, low, t.sized, t.cells.ok.0, t.listings.ok.0)

-- the place of the account of a row, by its number
pub record Spot (t : Tables) (row c i : ℕ) : Type 0 where
  pub listed : is_in t (get_or (vec_items t.accounts) row nobody).number c ≡ true
  pub place : i ≡ place_of (vec_items t.accounts) (vec_items t.listings) (get_or (vec_items t.accounts) row nobody).number c
  pub low : i < 32 * vec_len t.listings
  pub few : vec_len t.listings ≤ 128

pub spot : (t : Tables) (row column c n : ℕ) → row < vec_len t.accounts → is_listing c (vec_items t.listings) ≡ true → column ≡ listing_place c (vec_items t.listings) → n ≡ vec_len t.listings → Spot t row c (row * n + column)
spot t row column c n h l e m =
    let xs = vec_items t.accounts in
    let cs = vec_items t.listings in
    let a = (get_or xs row nobody).number in
    let k = t.accounts.ok.0 in
    let p = t.listings.ok.0 in
    let here = at_place xs row t.apart (omega arith) in
    let place : row * n + column ≡ place_of xs cs a c = ap₂ (λ i j. i * j + column) (sym here.1) (m ∙ p) ∙ ap (λ j. account_place a xs * length cs + j) e in
    let low = mul-add-lt row n column 32 (omega (arith, t.few)) (omega (arith, place_under listings c cs l)) in
    record { listed = and_from (is_account a xs) (is_listing c cs) here.0 l; place = place; low = omega (arith, low, m); few = t.narrow }
