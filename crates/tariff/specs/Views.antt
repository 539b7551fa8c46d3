-- A tariff of the code, as lists and numbers beside its contract table.
use Rattle.std.specs.Prelude.{Bool, [], ◌∷◌, ◌++◌, map, ℤ, Ok, Err, vec_items, Result}
use Rattle.terms.specs.declared.refusal.Refusal.{Refusal}
use Rattle.contracts.specs.Table.{Table}
use Rattle.contracts.specs.Views.{table_of}
use Rattle.tariff.specs.Rows.{rated, ranged}
use Rattle.tariff.specs.Settlements.{is_final}
use Rattle.tariff.specs.Said.{Rated, Ranged, Said}
use Rattle.tariff.specs.declared.draft.Draft.{Draft}
use Rattle.tariff.specs.declared.rows.Credit.{Credit}
use Rattle.tariff.specs.declared.rows.Prices.{Prices}

abbrev pub table_in : {P : Type 0} → Draft P → Table
table_in d = table_of d.contracts

abbrev pub said_of : {P : Type 0} → Draft P → Said
said_of d = record { settled = is_final d.settlement; spots = vec_items d.spots.rows; prices = vec_items d.prices.rows; risks = map (rated d.contracts.date.number) (vec_items d.risks.rows); ranges = map ranged (vec_items d.ranges.rows); credits = vec_items d.credits.rows }

abbrev pub draft_of : {P : Type 0} → Draft P → Table × Said
draft_of d = (table_in d, said_of d)

abbrev pub no_rows : Bool → Said
no_rows settled = record { settled = settled; spots = []; prices = []; risks = []; ranges = []; credits = [] }

-- with an empty contract table, where its dates are right
abbrev pub empty_by : Bool → Result Table Refusal → Result (Table × Said) Refusal
empty_by settled (Ok t) = Ok (t, no_rows settled)
empty_by settled (Err e) = Err e

abbrev pub plus_spot : Said → ℤ → Said
plus_spot s x = record { settled = s.settled; spots = s.spots ++ x ∷ []; prices = s.prices; risks = s.risks; ranges = s.ranges; credits = s.credits }

abbrev pub plus_prices : Said → Prices → Said
plus_prices s x = record { settled = s.settled; spots = s.spots; prices = s.prices ++ x ∷ []; risks = s.risks; ranges = s.ranges; credits = s.credits }

abbrev pub plus_risk : Said → Rated → Said
plus_risk s x = record { settled = s.settled; spots = s.spots; prices = s.prices; risks = s.risks ++ x ∷ []; ranges = s.ranges; credits = s.credits }

abbrev pub plus_range : Said → Ranged → Said
plus_range s x = record { settled = s.settled; spots = s.spots; prices = s.prices; risks = s.risks; ranges = s.ranges ++ x ∷ []; credits = s.credits }

abbrev pub plus_credit : Said → Credit → Said
plus_credit s x = record { settled = s.settled; spots = s.spots; prices = s.prices; risks = s.risks; ranges = s.ranges; credits = s.credits ++ x ∷ [] }
