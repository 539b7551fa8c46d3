use Rattle.std.proofs.Common.{◌≡◌, sym, ap, ◌∙◌, rules}
use Rattle.days.specs.Days.{numbered}
use Rattle.contracts.specs.Seen.{seen}
use Rattle.contracts.specs.Table.{Listed}
use Rattle.contracts.specs.Views.{table_of}
use Rattle.contracts.specs.declared.line.Line.{Line}
use Rattle.lines.specs.Rows.{first_of}
use Rattle.lines.proofs.Firsts.{contract_first, contract_first-row}
use Rattle.lines.proofs.row.first_of.Goals as goal

pub returns-in-Own : goal.returns-in-Own
returns-in-Own c =
    let t = table_of c.args.table.now in
    let found : c.map_or.result ≡ contract_first c.contract_at.result = search rules in
    found ∙ contract_first-row c.contract_at.result
    ∙ ap (λ (x : Listed). numbered x.first) c.contract_at.ensures.row
    ∙ sym (ap (λ (l : Line). numbered (first_of t (seen t.date l))) c.in-Own.is)
