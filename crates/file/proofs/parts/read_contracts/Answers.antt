use Rattle.std.proofs.Common.{◌≡◌, ◌+◌, arith}
use Rattle.file.specs.Says.{line_says}
use Rattle.file.proofs.parts.read_contracts.Goals as goal

pub returns-clause-parts : goal.returns-clause-parts
unfolding line_says
returns-clause-parts c =
    let n0 : c.args.lines.now.number ≡ 12 = c.requires in
    let n1 : c.head.new.self.number ≡ 13 = omega (arith, n0, c.in_ok-draft.ensures.number) in
    let n2 : c.read_rows.new.lines.number ≡ 13 + c.args.counts.instruments = omega (arith, n1, c.in_ok-read_rows.ensures.number) in
    let e0 = rw n0 at c.in_ok-draft.ensures.draft in
    let e1 = rw n1 at c.in_ok-read_rows.ensures.rows in
    let e2 = rw n2 at c.in_ok-read_rows-2.ensures.rows in
    rw (c.in_ok-of.ensures, ← e0, ← e1, ← e2)
