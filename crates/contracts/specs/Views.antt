-- A contract table of the code, as lists and numbers.
use Rattle.std.specs.Prelude.{ℕ, [], ◌∷◌, ◌++◌, map, vec_items}
use Rattle.contracts.specs.Table.{Instr, Listed, Table}
use Rattle.contracts.specs.Rows.{instr, listed}
use Rattle.contracts.specs.declared.table.ContractTable.{ContractTable}

abbrev pub table_of : {P : Type 0} → ContractTable P → Table
table_of t = record { date = t.date.number; horizon = t.horizon.number; instruments = map instr (vec_items t.instruments.rows); contracts = map listed (vec_items t.contracts.rows) }

abbrev pub empty_table : ℕ → ℕ → Table
empty_table date horizon = record { date = date; horizon = horizon; instruments = []; contracts = [] }

abbrev pub plus_instrument : Table → Instr → Table
plus_instrument t i = record { date = t.date; horizon = t.horizon; instruments = t.instruments ++ i ∷ []; contracts = t.contracts }

abbrev pub plus_contract : Table → Listed → Table
plus_contract t c = record { date = t.date; horizon = t.horizon; instruments = t.instruments; contracts = t.contracts ++ c ∷ [] }
