-- What the station prints on a file.
use Rattle.std.specs.Prelude.{◌≡◌, ℕ, true, List, [], Ok, Err, Result}
use Rattle.books.specs.Answers.{answers}
use Rattle.books.specs.State.{State, is_account, is_listing}
use Rattle.opening.specs.Rows.{amount_in}
use Rattle.opening.specs.Views.{listings_of}
use Rattle.limits.specs.Openings.{under_both}
use Rattle.file.specs.View.{View}
use Rattle.file.specs.declared.fault.Fault.{Fault}
use Rattle.session.specs.Texts.{line, fault_text, answer_lines}

-- a book on the date of a file, with its accounts, contracts and opening positions, and nothing entered
pub record Begins (v : View) (s : State) : Type 0 where
  pub date : s.date ≡ v.table.date
  pub accounts : s.accounts ≡ v.accounts
  pub listings : s.listings ≡ listings_of v.table
  pub opening : (a c : ℕ) → is_account a s.accounts ≡ true → is_listing c s.listings ≡ true → s.opening a c ≡ amount_in v.rows a c
  pub journal : s.journal ≡ []
  pub layers : s.layers ≡ []

-- the answers of a book that begins so, under the limits of the file, to its calls
pub record Session (v : View) (text : List ℕ) : Type 0 where
  pub book : State
  pub begins : Begins v book
  pub lines : text ≡ answer_lines (answers (under_both v.limits book) v.calls)

-- a file that is refused: number and line, and nothing else
abbrev pub Printed : Result View Fault → List ℕ → Type 0
Printed (Ok v) text = Session v text
Printed (Err q) text = text ≡ line (fault_text q)
