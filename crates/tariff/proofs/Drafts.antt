-- What drafts and tariffs keep, by their ghost fields.
use Rattle.contracts.specs.Views.{table_of}
use Rattle.tariff.specs.Rules.{Keeps, Given}
use Rattle.tariff.specs.Views.{said_of}
use Rattle.tariff.specs.declared.draft.Draft.{Draft}
use Rattle.tariff.specs.declared.tariff.Tariff.{Tariff}

pub keeps : {P : Type 0} (d : Draft P) → Keeps (table_of d.contracts) (said_of d)
keeps d = record {
  spots_each = d.spots_each;
  spots_hold = d.spots_within;
  prices_each = d.prices_each;
  all_prices_hold = d.prices_within;
  risks_kept = d.risks_kept;
  ranges_kept = d.ranges_kept;
  credits_kept = d.credits_kept;
}

pub given : {P : Type 0} (f : Tariff P) → Given (table_of f.draft.contracts) (said_of f.draft)
given f = record { keeps = keeps f.draft; complete = f.complete }
