use Rattle.std.proofs.Common.{◌≡◌, ◌≤◌, length, vec_items, vec_capacity}
use Rattle.books.specs.State.{Follows}
use Rattle.books.proofs.Runs.{Driven}
use Rattle.books.proofs.driving.drive.Given as goal

abbrev pub invariant-loop-call : goal.invariant-loop-call
invariant-loop-call g l =
    Driven (g.B.Book.state l.initial.book) (g.B.Book.state l.book) l.calls (vec_items l.answers) l.call-index
    × Follows (g.B.Holdings.holding l.book) (g.B.Book.state l.book)
    × (g.B.Book.lent l.book ≡ g.B.Book.lent l.initial.book)
    × (length l.calls ≤ vec_capacity l.answers)
    × (length (vec_items l.answers) ≡ l.call-index)
