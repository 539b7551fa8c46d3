use Rattle.std.proofs.Common.{◌≡◌, ◌*◌, ◌≤◌, true, false, List, None, length, is_some, vec_items, vec_len, refl, ap, arith, rules}
use Rattle.std.proofs.lemmas.Bool.{not_from_true}
use Rattle.std.proofs.lemmas.Nat.{mul-le}
use Rattle.std.proofs.lemmas.List.{length_push}
use Rattle.books.specs.State.{is_account, are_apart}
use Rattle.books.specs.declared.entry.Account.{Account}
use Rattle.opening.specs.Rows.{opened_in}
use Rattle.opening.specs.Rules.{account_within, account_refusal, opening_refusal, Kept}
use Rattle.opening.specs.Places.{ByPlace, AllWithin}
use Rattle.opening.proofs.Keeping.{none_lowest, kept_more, pushed, apart_more, rows_still, unopened, none_opened}
use Rattle.opening.proofs.Placing.{account_more, blank_later, all_within}
use Rattle.opening.proofs.opening.Opening.add_account.Goals as goal

pub invariant_of-self : goal.invariant_of-self
invariant_of-self c =
    let s = c.args.self.now in
    let x = c.args.account in
    let xs = vec_items s.accounts.rows in
    let ls = vec_items s.listings in
    let rs = vec_items s.rows.rows in
    let n = vec_len s.listings in
    let ys = vec_items s.amounts in
    let range : account_within x ≡ true = search rules in
    let fresh : is_account x.number xs ≡ false = search rules in
    let long : vec_len s.accounts.rows * n ≡ length xs * n = ap (λ m. m * n) s.accounts.rows.ok.0 in
    let told = account_more xs x ls n ys None (opened_in rs) s.told (blank_later _ _ _ _ (omega arith) s.blank) fresh (λ e. none_opened rs x.number e (unopened xs ls rs x.number e s.rows_kept fresh)) in
    let rows = rows_still xs x ls rs s.rows_kept in
    let P : List Account → Type 0 = λ l. (are_apart l ≡ true) × Kept account_refusal l × Kept (opening_refusal l ls) rs × ByPlace l ls n ys None (opened_in rs) × AllWithin l ls n ys × (length xs ≤ length l) in
    let all : P (vec_items c.push.new.self.rows) = pushed P 32 xs _ x c.push.result c.push.ensures.answer c.push.ensures.rows (s.apart, s.accounts_kept, s.rows_kept, s.told, s.within, omega arith)
    (λ few. (
    let refused : is_some (account_refusal xs x) ≡ false = ap is_some (none_lowest _ _ _ _ (not_from_true _ range) refl fresh few) in
    (apart_more xs x s.apart fresh, kept_more account_refusal xs x s.accounts_kept refused, rows, told, all_within _ ls n ys rs told rows, omega (arith, length_push xs x)))) in
    let more = mul-le (length xs) n (vec_len c.push.new.self.rows) n (omega (arith, all.5, c.push.new.self.rows.ok.0)) (omega arith) in
    record { listings_few = s.listings_few; amounts_long = s.amounts_long; apart = all.0; accounts_kept = all.1; rows_kept = all.2; limits_kept = s.limits_kept; told = all.3; within = all.4; blank = blank_later _ _ _ _ (omega (arith, long, more)) s.blank }
