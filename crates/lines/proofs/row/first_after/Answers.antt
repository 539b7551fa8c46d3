use Rattle.std.proofs.Common.{◌≡◌, ◌∙◌, rules}
use Rattle.lines.proofs.Firsts.{day_first, day_first-next}
use Rattle.lines.proofs.row.first_after.Goals as goal

pub returns : goal.returns
returns c =
    let found : c.map_or.result ≡ day_first c.plus.result = search rules in
    found ∙ day_first-next c.args.date.number c.last_of_month.result.number c.last_of_month.ensures.value c.last_of_month.result.within c.plus.result c.plus.ensures
