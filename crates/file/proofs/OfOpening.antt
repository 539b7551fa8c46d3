-- An opening over the contracts of a table has nothing else.
use Rattle.std.proofs.Common.{◌≡◌, List, [], vec_items, ap, ◌∙◌, ap₂}
use Rattle.contracts.specs.Table.{Table}
use Rattle.books.specs.declared.entry.Account.{Account}
use Rattle.opening.specs.Views.{Said, opening_of, opened_on, listings_of}
use Rattle.opening.specs.declared.opening.Opening.{Opening}
use Rattle.opening.specs.declared.rows.Limit.{Limit}
use Rattle.opening.specs.declared.rows.Opened.{Opened}
use Rattle.file.specs.View.{View, with_opening}

module _ (o : Opening) (t : Table) (e : opening_of o ≡ opened_on t) where
  pub no_accounts : vec_items o.accounts.rows ≡ []
  no_accounts = ap (λ (s : Said). s.accounts) e

  pub rows_empty : vec_items o.rows.rows ≡ []
  rows_empty = ap (λ (s : Said). s.rows) e

  pub no_limits : vec_items o.limits.rows ≡ []
  no_limits = ap (λ (s : Said). s.limits) e

  pub over_table : vec_items o.listings ≡ listings_of t
  over_table = ap (λ (s : Said). s.listings) e

  pub same_date : o.date.number ≡ t.date
  same_date = ap (λ (s : Said). s.date) e

-- the same view with equal parts
pub opened_alike : (v : View) (xs ys : List Account) (rs ss : List Opened) (ls ms : List Limit) → xs ≡ ys → rs ≡ ss → ls ≡ ms → with_opening v xs rs ls ≡ with_opening v ys ss ms
opened_alike v xs ys rs ss ls ms a b c = ap₂ (λ (zs : List Account) (ts : List Opened). with_opening v zs ts ls) a b ∙ ap (with_opening v ys ss) c
