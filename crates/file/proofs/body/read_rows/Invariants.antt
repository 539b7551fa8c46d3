use Rattle.std.proofs.Common.{◌≡◌, ◌+◌, ◌-◌}
use Rattle.file.specs.Walk.{body_of}
use Rattle.file.proofs.body.read_rows.Given as goal

abbrev pub invariant-loop : goal.invariant-loop
invariant-loop g l =
    (body_of g.R.Row.says (l.count - l.counter) l.lines.number (g.R.Row.view l.table) l.lines.rest.now ≡ body_of g.R.Row.says l.count l.initial.lines.number (g.R.Row.view l.initial.table) l.initial.lines.rest.now)
    × (l.lines.number ≡ l.initial.lines.number + l.counter)
