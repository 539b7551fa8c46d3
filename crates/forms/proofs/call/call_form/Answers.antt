use Rattle.std.proofs.Common.{rules}
use Rattle.forms.proofs.Letters.{letter_is_first, number_is_first}
use Rattle.forms.specs.Forms.{call_form}
use Rattle.text.proofs.Firsts.{at_none}
use Rattle.forms.proofs.call.call_form.Goals as goal

pub returns-in-78 : goal.returns-in-78
returns-in-78 c = rw (letter_is_first c.args.fields.now c.in-Word.call 78 (search rules) (search rules) (search rules) (search rules)) c.enter_form.ensures

pub returns-in-88 : goal.returns-in-88
returns-in-88 c = rw (letter_is_first c.args.fields.now c.in-Word.call 88 (search rules) (search rules) (search rules) (search rules)) c.cancel_form.ensures

pub returns-in-84 : goal.returns-in-84
returns-in-84 c = rw (letter_is_first c.args.fields.now c.in-Word.call 84 (search rules) (search rules) (search rules) (search rules)) c.transfer_form.ensures

pub returns-in_default : goal.returns-in_default
returns-in_default c = at_none call_form c.args.fields.now (search rules)

pub returns-in_default-2 : goal.returns-in_default-2
returns-in_default-2 c = rw (number_is_first c.args.fields.now (search rules) (search rules))
