use Rattle.std.proofs.Common.{◌≡◌, ◌+◌, ◌*◌, List, map, length, get_or, None, unwrap_or, vec_items, sym, refl, ap, ◌∙◌, subst, ap₂, arith}
use Rattle.std.proofs.lemmas.List.{length-map}
use Rattle.terms.specs.Amounts.{no_amount}
use Rattle.books.specs.State.{are_apart, is_account, is_listing, account_place, listing_place}
use Rattle.books.specs.declared.entry.Account.{Account}
use Rattle.books.specs.declared.entry.Cell.{Cell}
use Rattle.books.specs.declared.entry.Listing.{Listing}
use Rattle.opening.proofs.Keeping.{amount_opened}
use Rattle.ledger.specs.Places.{place_of, openings, amount_at, CellsWithin}
use Rattle.ledger.specs.Starts.{untraded}
use Rattle.ledger.specs.Tied.{Untraded}
use Rattle.ledger.proofs.Untraded.{openings_of, trades_of, untraded_within}
use Rattle.ledger.proofs.ground.Ground.of.Goals as goal

pub invariant_of-tables : goal.invariant_of-tables
invariant_of-tables c =
    let o = c.args.opening.now in
    let xs = c.in_ok-from_slice.field-0 in
    let cs = c.in_ok-from_slice-2.field-0 in
    let ys = c.in_ok-untraded.field-0 in
    let accounts : vec_items xs ≡ vec_items o.accounts.rows = c.in_ok-from_slice.ensures.items ∙ c.deref.ensures.value in
    let listings : vec_items cs ≡ vec_items o.listings = c.in_ok-from_slice-2.ensures.items ∙ c.deref-2.ensures.value in
    let cells : vec_items ys ≡ map untraded (vec_items o.amounts) = c.in_ok-untraded.ensures ∙ ap (map untraded) c.deref-3.ensures.value in
    let within : CellsWithin (vec_items xs) (vec_items cs) (vec_items ys) =
    subst (λ (as' : List Account). CellsWithin as' (vec_items cs) (vec_items ys)) (sym accounts)
    (subst (λ (ls : List Listing). CellsWithin (vec_items o.accounts.rows) ls (vec_items ys)) (sym listings)
    (subst (CellsWithin (vec_items o.accounts.rows) (vec_items o.listings)) (sym cells) (untraded_within o))) in
    let long = ap length cells ∙ length-map (vec_items o.amounts) untraded in
    let wide = ap length listings in
    record {
      few = omega (arith, xs.ok.0, ap length accounts, o.accounts.rows.ok.0, o.accounts.few);
      narrow = omega (arith, cs.ok.0, wide, o.listings.ok.0, o.listings_few);
      sized = omega (arith, ys.ok.0, long, o.amounts.ok.0, o.amounts_long, cs.ok.0, wide, o.listings.ok.0);
      apart = ap are_apart accounts ∙ o.apart;
      within = within;
    }

pub invariant_of-result : goal.invariant_of-result
invariant_of-result c =
    let o = c.args.opening.now in
    let cells : vec_items c.in_ok-untraded.field-0 ≡ map untraded (vec_items o.amounts) = c.in_ok-untraded.ensures ∙ ap (map untraded) c.deref-3.ensures.value in
    record { untraded = subst Untraded (sym cells) (trades_of (vec_items o.amounts)) }

pub returns : goal.returns
returns c =
    let o = c.args.opening.now in
    let accounts : vec_items c.in_ok-from_slice.field-0 ≡ vec_items o.accounts.rows = c.in_ok-from_slice.ensures.items ∙ c.deref.ensures.value in
    let listings : vec_items c.in_ok-from_slice-2.field-0 ≡ vec_items o.listings = c.in_ok-from_slice-2.ensures.items ∙ c.deref-2.ensures.value in
    let cells : vec_items c.in_ok-untraded.field-0 ≡ map untraded (vec_items o.amounts) = c.in_ok-untraded.ensures ∙ ap (map untraded) c.deref-3.ensures.value in
    record {
      date = refl;
      accounts = accounts;
      listings = listings;
      opening = λ a k h i.
          ap₂ (λ (xs : List Account) (cs : List Listing). amount_at xs cs (openings (vec_items c.in_ok-untraded.field-0)) a k) accounts listings
          ∙ ap (λ (ys : List Cell). amount_at (vec_items o.accounts.rows) (vec_items o.listings) (openings ys) a k) cells
          ∙ openings_of (vec_items o.amounts) (place_of (vec_items o.accounts.rows) (vec_items o.listings) a k)
          ∙ sym (ap (λ m. unwrap_or (get_or (vec_items o.amounts) (account_place a (vec_items o.accounts.rows) * m + listing_place k (vec_items o.listings)) None) no_amount) o.listings.ok.0)
          ∙ ap (λ x. unwrap_or x no_amount) (o.told a k (sym (ap (is_account a) accounts) ∙ h, sym (ap (is_listing k) listings) ∙ i))
          ∙ amount_opened (vec_items o.rows.rows) a k;
      journal = refl;
      layers = refl;
    }
