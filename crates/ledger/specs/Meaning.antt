-- What a table book means.
use Rattle.std.specs.Prelude.{List, [], take, vec_items}
use Rattle.books.specs.State.{State}
use Rattle.books.specs.declared.entry.Entry.{Entry}
use Rattle.ledger.specs.Views.{opening}
use Rattle.ledger.specs.declared.tables.Tables.{Tables}
use Rattle.ledger.specs.declared.table_book.TableBook.{TableBook}

abbrev pub state_by : Tables → List Entry → State
state_by t es = record { date = t.date.number; accounts = vec_items t.accounts; listings = vec_items t.listings; opening = opening t; journal = es; layers = [] }

-- it has no limits
abbrev pub state_of : TableBook → State
state_of b = state_by b.tables (take b.used b.journal.now)
