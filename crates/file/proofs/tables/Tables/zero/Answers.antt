use Rattle.std.proofs.Common.{false, List, vec_items, refl, ap, ◌∙◌}
use Rattle.contracts.specs.Views.{empty_table}
use Rattle.books.specs.declared.entry.Call.{Call}
use Rattle.tariff.specs.Views.{table_in, said_of, no_rows}
use Rattle.file.specs.View.{no_view, with_tariff, with_calls}
use Rattle.file.proofs.OfDraft.{no_instruments, tariff_alike}
use Rattle.file.proofs.OfOpening.{no_accounts, rows_empty, no_limits, over_table, same_date, opened_alike}
use Rattle.file.proofs.tables.Tables.zero.Goals as goal

pub returns : goal.returns
returns c =
    let d = c.in_ok-tariff.tariff.draft in
    let o = c.in_ok-opening.opening in
    let e = c.in_ok-tariff.ensures in
    let f = c.in_ok-opening.ensures in
    let t = table_in d in
    let is = no_instruments d (empty_table 0 1) (no_rows false) e refl in
    let base = with_tariff no_view (vec_items d.contracts.instruments.rows) (table_in d, said_of d) in
    record {
      value =
          opened_alike (with_calls base (vec_items c.in_ok-calls.calls.rows)) _ _ _ _ _ _ (no_accounts o t f) (rows_empty o t f) (no_limits o t f)
          ∙ ap (λ (cs : List Call). with_calls base cs) c.in_ok-calls.ensures
          ∙ tariff_alike no_view _ _ _ _ is e;
      matched = (over_table o t f, same_date o t f);
    }
