use Rattle.std.proofs.Common.{is_some, sym, ap, arith}
use Rattle.std.proofs.lemmas.Bool.{lt-leb, le-leb}
use Rattle.contracts.specs.Views.{table_of}
use Rattle.tariff.proofs.Naming.{rest_there, rest_unlisted, rest_far}
use Rattle.tariff.proofs.draft.Draft.rest_line.Goals as goal

pub returns-in_err-kind_of : goal.returns-in_err-kind_of
returns-in_err-kind_of g c = rw c.from_residual.ensures (rest_unlisted (table_of c.args.self.now.contracts) c.args.instrument c.args.month (sym (ap is_some c.in_err-kind_of.ensures)))

pub returns-in-0 : goal.returns-in-0
returns-in-0 g c = rest_there (table_of c.args.self.now.contracts) c.args.instrument c.args.month _ (sym (ap is_some c.in_ok-kind_of.ensures)) (le-leb c.args.month 1 (omega arith)) (omega arith)

pub returns-in-1 : goal.returns-in-1
returns-in-1 g c = rest_there (table_of c.args.self.now.contracts) c.args.instrument c.args.month _ (sym (ap is_some c.in_ok-kind_of.ensures)) (le-leb c.args.month 1 (omega arith)) (omega arith)

pub returns-in_default : goal.returns-in_default
returns-in_default g c = rest_far (table_of c.args.self.now.contracts) c.args.instrument c.args.month (lt-leb c.args.month 1 (omega arith))
