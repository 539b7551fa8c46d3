-- What a call is refused for, by the entry that it is about.
use Rattle.std.specs.Prelude.{Bool, false, not, ◌==◌}
use Rattle.books.specs.declared.entry.Call.{Call}
use Rattle.books.specs.declared.entry.Call.TheVariants.{Enter, Cancel, Transfer, LimitMember, LimitAgents}
use Rattle.books.specs.declared.entry.Entry.{Entry}

abbrev pub missing : Call → Entry → Bool
missing (Enter t) e = false
missing (Cancel k) e = not e.stands
missing (Transfer k a) e = not e.stands
missing (LimitMember c most) e = false
missing (LimitAgents c most) e = false

abbrev pub own : Call → Entry → Bool
own (Enter t) e = false
own (Cancel k) e = false
own (Transfer k a) e = e.trade.account == a
own (LimitMember c most) e = false
own (LimitAgents c most) e = false
