-- What a write to one cell leaves.
use Rattle.std.proofs.Common.{◌≡◌, ℕ, ◌<◌, true, ◌&&◌, List, length, get_or, set, vec_items, sym, refl, ap, ◌∙◌, subst, ap₂, inl, inr, arith}
use Rattle.std.proofs.Math.Seq.{map-set_same}
use Rattle.std.proofs.lemmas.List.{get_or-set_same, get_or-set_other, map-set, length-map}
use Rattle.std.proofs.lemmas.Bool.{and_parts, and_from, cases_eq}
use Rattle.terms.specs.Amounts.{no_amount, amount_plus}
use Rattle.terms.specs.declared.amounts.Amount.{Amount}
use Rattle.books.specs.Cells.{opens_within, trades_within}
use Rattle.books.specs.State.{is_account, is_listing, kind_of}
use Rattle.books.specs.declared.entry.Account.{Account}
use Rattle.books.specs.declared.entry.Cell.{Cell}
use Rattle.books.specs.declared.entry.Listing.{Listing}
use Rattle.opening.proofs.Placing.{same_place}
use Rattle.ledger.specs.Places.{place_of, is_listed, amount_at, openings, trades, CellsWithin}
use Rattle.ledger.specs.Views.{opening, traded, bears_at}
use Rattle.ledger.specs.declared.tables.Tables.{Tables}
use Rattle.ledger.proofs.AtPlace.{no_cell, borne, place_low, At}

-- ---- what cells hold, with one cell written
pub openings_kept : (ys : List Cell) (p : ℕ) (y : Cell) → y.opening ≡ (get_or ys p no_cell).opening → openings (set ys p y) ≡ openings ys
openings_kept ys p y same = map-set_same (λ (x : Cell). x.opening) ys p y no_cell same

pub trades_set : (ys : List Cell) (p : ℕ) (y : Cell) → trades (set ys p y) ≡ set (trades ys) p y.traded
trades_set ys p y = map-set (λ (x : Cell). x.traded) ys p y

pub trades_low : (ys : List Cell) (p : ℕ) → p < length ys → p < length (trades ys)
trades_low ys p h = omega (arith, length-map ys (λ (x : Cell). x.traded))

module _ (xs : List Account) (cs : List Listing) where
  apart_place : (a c b d : ℕ) → is_listed xs cs a c ≡ true → is_listed xs cs b d ≡ true → place_of xs cs a c ≡ place_of xs cs b d → (a ≡ b) × (c ≡ d)
  apart_place a c b d h k e = same_place xs cs (length cs) a c b d refl (and_parts (is_account a xs) (is_listing c cs) h) (and_parts (is_account b xs) (is_listing d cs) k) e

  -- ---- a write
  pub at_write : (ts : List Amount) (a c : ℕ) (y : Amount) → place_of xs cs a c < length ts → amount_at xs cs (set ts (place_of xs cs a c) y) a c ≡ y
  at_write ts a c y h = get_or-set_same ts (place_of xs cs a c) y no_amount h

  pub past_write : (ts : List Amount) (a c b d : ℕ) (y : Amount) → is_listed xs cs a c ≡ true → is_listed xs cs b d ≡ true → ((a ≡ b) × (c ≡ d) → ⊥) → amount_at xs cs (set ts (place_of xs cs b d) y) a c ≡ amount_at xs cs ts a c
  past_write ts a c b d y h k ne = get_or-set_other ts (place_of xs cs b d) (place_of xs cs a c) y no_amount (λ e. ne (apart_place a c b d h k e))

  -- the cell that was written, or another
  pub either : (P : Amount → Type 0) (ts : List Amount) (a c b d : ℕ) (y : Amount) → is_listed xs cs a c ≡ true → is_listed xs cs b d ≡ true → place_of xs cs b d < length ts
      → ((a ≡ b) × (c ≡ d) → P y) → (((a ≡ b) × (c ≡ d) → ⊥) → P (amount_at xs cs ts a c)) → P (amount_at xs cs (set ts (place_of xs cs b d) y) a c)
  either P ts a c b d y h k l f g = elim (cases_eq a b) [
    | inr ne ↦ subst P (sym (past_write ts a c b d y h k (λ s. ne s.0))) (g (λ s. ne s.0))
    | inl same ↦ elim (cases_eq c d) [
      | inr ne ↦ subst P (sym (past_write ts a c b d y h k (λ s. ne s.1))) (g (λ s. ne s.1))
      | inl too ↦ subst P (sym (ap₂ (λ i j. amount_at xs cs (set ts (place_of xs cs b d) y) i j) same too ∙ at_write ts b d y l)) (f (same, too))
    ]
  ]

  pub within_write : (ys : List Cell) (b d : ℕ) (y : Cell) → CellsWithin xs cs ys → is_listed xs cs b d ≡ true → place_of xs cs b d < length ys → y.opening ≡ (get_or ys (place_of xs cs b d) no_cell).opening → trades_within (amount_at xs cs (openings ys) b d) y.traded ≡ true → CellsWithin xs cs (set ys (place_of xs cs b d) y)
  within_write ys b d y w k l same fits =
      subst (λ (os : List Amount). (a c : ℕ) → is_listed xs cs a c ≡ true → (opens_within (kind_of c cs) (amount_at xs cs os a c) && trades_within (amount_at xs cs os a c) (amount_at xs cs (trades (set ys (place_of xs cs b d) y)) a c)) ≡ true) (sym (openings_kept ys (place_of xs cs b d) y same))
      (subst (λ (ts : List Amount). (a c : ℕ) → is_listed xs cs a c ≡ true → (opens_within (kind_of c cs) (amount_at xs cs (openings ys) a c) && trades_within (amount_at xs cs (openings ys) a c) (amount_at xs cs ts a c)) ≡ true) (sym (trades_set ys (place_of xs cs b d) y))
      (λ a c h. (
      let o = amount_at xs cs (openings ys) a c in
      let was = and_parts (opens_within (kind_of c cs) o) (trades_within o (amount_at xs cs (trades ys) a c)) (w a c h) in
      either (λ (x : Amount). opens_within (kind_of c cs) o && trades_within o x ≡ true) (trades ys) a c b d y.traded h k (trades_low ys (place_of xs cs b d) l)
      (λ s. and_from (opens_within (kind_of c cs) o) (trades_within o y.traded) was.0 (ap₂ (λ i j. trades_within (amount_at xs cs (openings ys) i j) y.traded) s.0 s.1 ∙ fits))
      (λ _. w a c h))))

-- ---- an amount more in one cell, which bears it
module _ (t : Tables) (a c i : ℕ) (x y : Cell) (by : Amount) (at : At t a c i x) (same : y.opening ≡ x.opening) (more : y.traded ≡ amount_plus x.traded by) where
  more_there : y.traded ≡ amount_plus (traded t a c) by
  more_there = more ∙ ap (λ (z : Cell). amount_plus z.traded by) at.cell

  same_there : y.opening ≡ (get_or (vec_items t.cells) i no_cell).opening
  same_there = same ∙ ap (λ (z : Cell). z.opening) at.stored

  pub posted_within : bears_at t a c by ≡ true → CellsWithin (vec_items t.accounts) (vec_items t.listings) (set (vec_items t.cells) i y)
  posted_within bears =
      let xs = vec_items t.accounts in
      let cs = vec_items t.listings in
      let ys = vec_items t.cells in
      let fits : trades_within (amount_at xs cs (openings ys) a c) y.traded ≡ true = ap (trades_within (opening t a c)) more_there ∙ borne t a c by at.listed bears in
      subst (λ j. CellsWithin xs cs (set ys j y)) (sym at.place)
      (within_write xs cs ys a c y t.within at.listed (place_low t a c at.listed) (same_there ∙ ap (λ j. (get_or ys j no_cell).opening) at.place) fits)

  pub posted_openings : openings (set (vec_items t.cells) i y) ≡ openings (vec_items t.cells)
  posted_openings = openings_kept (vec_items t.cells) i y same_there

  pub posted_trades : trades (set (vec_items t.cells) i y) ≡ set (trades (vec_items t.cells)) (place_of (vec_items t.accounts) (vec_items t.listings) a c) (amount_plus (traded t a c) by)
  posted_trades = trades_set (vec_items t.cells) i y ∙ ap₂ (set (trades (vec_items t.cells))) at.place more_there
