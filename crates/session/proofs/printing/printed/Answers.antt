use Rattle.std.proofs.Common.{IfOk, string_bytes, Result, subst}
use Rattle.file.specs.View.{View}
use Rattle.file.specs.declared.fault.Fault.{Fault}
use Rattle.session.specs.Printed.{Printed}
use Rattle.session.proofs.printing.printed.Goals as goal

pub returns-in-Ok : goal.returns-in-Ok
returns-in-Ok c = subst (λ (s : Result View Fault). IfOk c.session_text.result (λ t. Printed s (string_bytes t))) c.in-Ok.ensures.value c.session_text.ensures
