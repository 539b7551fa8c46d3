use Rattle.std.proofs.Common.{ℕ, ◌+◌, sym, ap, ◌∙◌}
use Rattle.contracts.specs.Lines.{day}
use Rattle.contracts.specs.Views.{table_of}
use Rattle.tariff.specs.Rules.{line_in}
use Rattle.tariff.proofs.Naming.{lines_day, line_there, line_absent}
use Rattle.tariff.proofs.draft.Draft.day_line.Goals as goal

pub returns-then-has_day : goal.returns-then-has_day
returns-then-has_day g c =
    let t = table_of c.args.self.now.contracts in
    let u = c.args.instrument in
    let there = line_there t (day u (t.date + c.from.result)) (lines_day t u (t.date + c.from.result) ∙ sym c.if-has_day.ensures) in
    there ∙ ap (λ (k : ℕ). line_in t (day u (t.date + k))) c.from.ensures

pub returns-else-has_day : goal.returns-else-has_day
returns-else-has_day g c =
    let t = table_of c.args.self.now.contracts in
    let u = c.args.instrument in
    let absent = line_absent t (day u (t.date + c.from.result)) (lines_day t u (t.date + c.from.result) ∙ sym c.if-has_day.ensures) in
    absent ∙ ap (λ (k : ℕ). line_in t (day u (t.date + k))) c.from.ensures
