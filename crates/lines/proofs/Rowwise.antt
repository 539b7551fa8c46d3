-- The report on a line, and on those that follow it.
use Rattle.std.proofs.Common.{◌≡◌, ℕ, ◌+◌, ◌<◌, List, [], ◌∷◌, ◌++◌, map, length, get_or, drop, ℤ, vec_items, sym, ap, ◌∙◌, append_assoc}
use Rattle.std.proofs.lemmas.List.{at_drop_more}
use Rattle.calendar.specs.Loads.{load_mask}
use Rattle.calendar.specs.declared.load.Load.{Load}
use Rattle.contracts.specs.Hours.{mask_in}
use Rattle.contracts.specs.Lines as spec
use Rattle.contracts.specs.Seen.{seen}
use Rattle.contracts.specs.Views.{table_of}
use Rattle.contracts.specs.declared.line.Line.{Line}
use Rattle.contracts.specs.declared.table.ContractTable.{ContractTable}
use Rattle.positions.specs.Net.{placed}
use Rattle.positions.specs.declared.positions.Positions.{Positions}
use Rattle.lines.specs.Rows.{row_of, rows_from, report_of}

module _ (s : ContractTable Load) where
  abbrev masks : ℕ → ℕ → ℕ
  masks = mask_in load_mask (vec_items s.instruments.rows)

  -- the row of a line of the code
  abbrev row_at : ℤ → ℤ → Line → List ℕ
  row_at before after l = row_of masks (table_of s) (seen s.date.number l) before after

  module _ (p : Positions) where
    -- the rows of some lines, the first of them at place i
    abbrev rows : ℕ → List spec.Line → List ℕ
    rows i ls = rows_from masks (table_of s) (placed (vec_items p.before)) (placed (vec_items p.netted)) i ls

    abbrev whole : List ℕ
    whole = report_of masks (table_of s) (vec_items p.before) (vec_items p.netted)

    abbrev left : ℕ → List Line → List ℕ
    left i ks = rows i (map (seen s.date.number) ks)

    module _ (ls : List Line) (done : List ℕ) (i : ℕ) (inv : done ++ left i (drop i ls) ≡ whole) where
      pub one_more : (l : Line) (row more : List ℕ) (before after : ℤ) → i < length ls → l ≡ get_or ls i l → more ≡ done ++ (row ++ 10 ∷ []) → row ≡ row_at before after l → before ≡ placed (vec_items p.before) i → after ≡ placed (vec_items p.netted) i → more ++ left (i + 1) (drop (i + 1) ls) ≡ whole
      one_more l row more before after h at added is b a =
          let x = placed (vec_items p.before) i in
          let y = placed (vec_items p.netted) i in
          let here = is ∙ ap (λ (z : ℤ). row_at z after l) b ∙ ap (λ (z : ℤ). row_at x z l) a ∙ ap (row_at x y) at in
          ap (λ (m : List ℕ). m ++ left (i + 1) (drop (i + 1) ls)) (added ∙ ap (λ (r : List ℕ). done ++ (r ++ 10 ∷ [])) here)
          ∙ append_assoc done (row_at x y (get_or ls i l) ++ 10 ∷ []) (left (i + 1) (drop (i + 1) ls))
          ∙ ap (λ (r : List ℕ). done ++ r) (sym (at_drop_more (left i) ls i l h))
          ∙ inv
