use Rattle.std.proofs.Common.{◌≡◌, ℕ, ◌*◌, ◌<◌, ◌≤◌, Bool, true, false, cond, leb, List, [], ◌∷◌, ◌++◌, length, set, is_some, Some, None, Ok, Err, Result, vec_items, vec_len, sym, refl, ap, ◌∙◌, subst, arith}
use Rattle.std.proofs.lemmas.Result.{err_from_is_err_and}
use Rattle.terms.specs.declared.refusal.Refusal.{Refusal}
use Rattle.terms.specs.declared.refusal.Refusal.TheVariants.{TooLong}
use Rattle.contracts.specs.Rules.{answer_by}
use Rattle.opening.specs.Places.{place_of, Known, ByPlace, AllWithin}
use Rattle.opening.specs.Rows.{opened_in}
use Rattle.opening.specs.Rules.{opening_refusal, row_refusal, place_by, Kept}
use Rattle.opening.specs.declared.opening.Opening.{Opening}
use Rattle.opening.specs.declared.rows.Opened.{Opened}
use Rattle.opening.proofs.Keeping.{place_by_ok, place_by_err, room_lowest, rest_lowest, Sound, sound, kept_more, opened_new, opened_other}
use Rattle.opening.proofs.Placing.{place_low, place_inside, row_more, blank_set, all_within}
use Rattle.opening.proofs.opening.Opening.add_opening.Goals as goal

-- what the place of a row that may be added tells
record Ready (s : Opening) (r : Opened) (p : ℕ) : Type 0 where
  at : p ≡ place_of (vec_items s.accounts.rows) (vec_items s.listings) (vec_len s.listings) r.account r.contract
  none : is_some (opening_refusal (vec_items s.accounts.rows) (vec_items s.listings) (vec_items s.rows.rows) r) ≡ false
  is : Sound (vec_items s.accounts.rows) (vec_items s.listings) (vec_items s.rows.rows) r
  low : p < vec_len s.accounts.rows * vec_len s.listings
  inside : p < 32 * vec_len s.listings

ready : (s : Opening) (r : Opened) (p : ℕ) → Ok p ≡ place_by (place_of (vec_items s.accounts.rows) (vec_items s.listings) (vec_len s.listings) r.account r.contract) (row_refusal (vec_items s.accounts.rows) (vec_items s.listings) (vec_items s.rows.rows) r) → leb 4096 (length (vec_items s.rows.rows)) ≡ false → Ready s r p
ready s r p e room =
    let xs = vec_items s.accounts.rows in
    let ls = vec_items s.listings in
    let n = vec_len s.listings in
    let ok = place_by_ok p (place_of xs ls n r.account r.contract) (row_refusal xs ls (vec_items s.rows.rows) r) e in
    let none : is_some (opening_refusal xs ls (vec_items s.rows.rows) r) ≡ false = ap is_some (room_lowest _ _ _ _ ok.1 ∙ ap (λ b. cond b (Some TooLong) None) room) in
    let is = sound xs ls (vec_items s.rows.rows) r none in
    let long : vec_len s.accounts.rows * n ≡ length xs * n = ap (λ m. m * n) s.accounts.rows.ok.0 in
    let few : length xs ≤ 32 = omega (arith, s.accounts.few, s.accounts.rows.ok.0) in
    let low = place_low xs ls n r.account r.contract s.listings.ok.0 (is.account, is.listing) in
    let inside = place_inside xs ls n r.account r.contract s.listings.ok.0 few (is.account, is.listing) in
    record { at = ok.0; none = none; is = is; low = omega (arith, ok.0, low, long); inside = omega (arith, ok.0, inside) }

-- a row that was pushed found room
roomy : (b : Bool) → ◌≡◌ {A = Result (Unit {0}) Refusal} (Ok tt) (cond b (Err TooLong) (Ok tt)) → b ≡ false
roomy true e = absurd (let z : ◌≡◌ {A = ℕ} 0 1 = cc in omega arith)
roomy false e = refl

pub returns-in_err-place-clause-answer : goal.returns-in_err-place-clause-answer
returns-in_err-place-clause-answer c =
    let p = err_from_is_err_and c.from_residual.result c.from_residual.ensures.1 in
    p.1 ∙ ap Err p.2 ∙ ap answer_by (sym (rest_lowest _ _ _ _ _ (place_by_err _ _ _ c.in_err-place.ensures)))

pub index_mut-requires : goal.index_mut-requires
index_mut-requires c =
    let s = c.args.self.now in
    let so = ready s c.args.row _ c.in_ok-place.ensures (roomy _ c.in_ok-push.ensures.answer) in
    omega (arith, so.inside, s.amounts_long)

-- the rows, and what stands at the places, with the new row
abbrev Added : Opening → Opened → ℕ → List Opened → Type 0
Added s r p rs =
    Kept (opening_refusal (vec_items s.accounts.rows) (vec_items s.listings)) rs
    × ByPlace (vec_items s.accounts.rows) (vec_items s.listings) (vec_len s.listings) (set (vec_items s.amounts) p (Some r.amount)) None (opened_in rs)
    × AllWithin (vec_items s.accounts.rows) (vec_items s.listings) (vec_len s.listings) (set (vec_items s.amounts) p (Some r.amount))

added : (s : Opening) (r : Opened) (p : ℕ) (rs : List Opened) → Ready s r p → rs ≡ vec_items s.rows.rows ++ r ∷ [] → Added s r p rs
added s r p rs ready e =
    let xs = vec_items s.accounts.rows in
    let ls = vec_items s.listings in
    let n = vec_len s.listings in
    let ys = vec_items s.amounts in
    let old = vec_items s.rows.rows in
    let known : Known xs ls r.account r.contract = (ready.is.account, ready.is.listing) in
    let at = place_of xs ls n r.account r.contract in
    let lt : at < length ys = omega (arith, ready.inside, ready.at, s.amounts_long, s.amounts.ok.0) in
    let kept = kept_more (opening_refusal xs ls) old r s.rows_kept ready.none in
    let told = row_more xs ls n r.account r.contract ys None (Some r.amount) (opened_in old) (opened_in (old ++ r ∷ [])) s.listings.ok.0 known lt s.told (opened_new old r ready.is.fresh) (opened_other old r) in
    let within = all_within xs ls n (set ys at (Some r.amount)) (old ++ r ∷ []) told kept in
    subst (Added s r p) (sym e) (subst (λ i. Added s r i (old ++ r ∷ [])) (sym ready.at) (kept, told, within))

pub invariant_of-self-2 : goal.invariant_of-self-2
invariant_of-self-2 c =
    let s = c.args.self.now in
    let p = c.in_ok-place.place in
    let so = ready s c.args.row p c.in_ok-place.ensures (roomy _ c.in_ok-push.ensures.answer) in
    let all = added s c.args.row p (vec_items c.push.new.self.rows) so c.in_ok-push.ensures.rows in
    record { listings_few = s.listings_few; amounts_long = s.amounts_long; apart = s.apart; accounts_kept = s.accounts_kept; rows_kept = all.0; limits_kept = s.limits_kept; told = all.1; within = all.2; blank = blank_set _ p _ _ _ so.low s.blank }
