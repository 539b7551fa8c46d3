use Rattle.std.proofs.Common.{rules}
use Rattle.contracts.specs.Views.{table_of}
use Rattle.contracts.specs.declared.table.ContractTable.{ContractTable}
use Rattle.tariff.specs.Rules.{LinesNamed}
use Rattle.tariff.proofs.Names.{lines_named}
use Rattle.tariff.proofs.draft.Draft.line_of.Goals as goal

all_named : {P : Type 0} (s : ContractTable P) → LinesNamed (table_of s)
all_named s = lines_named (table_of s) s.near s.instruments_kept s.contracts_kept

pub returns-in-Day : goal.returns-in-Day
returns-in-Day g c = record { value = search rules; law = all_named c.args.self.now.contracts }

pub returns-in-Rest : goal.returns-in-Rest
returns-in-Rest g c = record { value = search rules; law = all_named c.args.self.now.contracts }

pub returns-in-Own : goal.returns-in-Own
returns-in-Own g c = record { value = search rules; law = all_named c.args.self.now.contracts }
