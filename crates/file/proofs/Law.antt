-- A file is refused exactly for what it is refused.
use Rattle.std.proofs.Common.{◌≡◌, ℕ, ◌<◌, ◌≤◌, Bool, true, false, cond, ltb, List, length, Ok, Err, Result, sym, refl, ap, ◌∙◌, arith}
use Rattle.std.proofs.lemmas.Bool.{ltb-true, ltb-false, lt-ltb, le-ltb}
use Rattle.terms.specs.declared.refusal.Refusal.TheVariants.{MissingRiskLine, TooLong}
use Rattle.text.specs.Chain.{◌then◌}
use Rattle.tariff.specs.Rules.{is_complete}
use Rattle.file.specs.Contents.{count_of}
use Rattle.file.specs.File.{plan, most_bytes, whole, file_says, Right, RefusedFor, too_long, at_fault, lacking, Lawful}
use Rattle.file.specs.Plan.{lines_in, at, read_from}
use Rattle.file.specs.Says.{line_says}
use Rattle.file.specs.View.{View, no_view}
use Rattle.file.specs.declared.fault.Fault.{Fault}
use Rattle.file.proofs.First.{first_of, told_of, right_of, read_of}

module _ (bs : List ℕ) where
  abbrev lined : Result View Fault
  lined = read_from count_of line_says 1 plan no_view (lines_in bs)

  pub short : length bs ≤ most_bytes → file_says bs ≡ (lined then whole)
  short h = ap (λ (b : Bool). cond b (at 0 (Err TooLong)) (lined then whole)) (le-ltb most_bytes (length bs) h)

  pub long : most_bytes < length bs → file_says bs ≡ Err (record { refusal = TooLong; line = 0 })
  long h = ap (λ (b : Bool). cond b (at 0 (Err TooLong)) (lined then whole)) (lt-ltb most_bytes (length bs) h)

  lacks : (v : View) → Right bs v → is_complete v.table v.tariff.risks ≡ false → (lined then whole) ≡ Err (record { refusal = MissingRiskLine; line = 8 })
  lacks v r e = ap (λ (x : Result View Fault). x then whole) (read_of count_of line_says 1 plan no_view (lines_in bs) v r) ∙ ap (λ (b : Bool). cond b (Ok v) (at 8 (Err MissingRiskLine))) e

  refused_so : (q : Fault) → RefusedFor bs q → file_says bs ≡ Err q
  refused_so q (too_long h e) = long h ∙ ap Err (sym e)
  refused_so q (at_fault h f) = short h ∙ ap (λ (x : Result View Fault). x then whole) (told_of count_of line_says 1 plan no_view (lines_in bs) q f)
  refused_so q (lacking h v r c e) = short h ∙ lacks v r c ∙ ap Err (sym e)

  only_so : (q : Fault) → file_says bs ≡ Err q → RefusedFor bs q
  only_so q e = by (ltb most_bytes (length bs)) refl e
    where
      complete : (v : View) (c : Bool) → length bs ≤ most_bytes → lined ≡ Ok v → is_complete v.table v.tariff.risks ≡ c → cond c (Ok v) (at 8 (Err MissingRiskLine)) ≡ Err q → RefusedFor bs q
      complete v true h r c e = absurd (let z : ◌≡◌ {A = ℕ} 0 1 = cc in omega arith)
      complete v false h r c e = let same : record { refusal = MissingRiskLine; line = 8 } ≡ q = cc in lacking h v (right_of count_of line_says 1 plan no_view (lines_in bs) v r) c (sym same)

      read : (x : Result View Fault) → length bs ≤ most_bytes → lined ≡ x → (x then whole) ≡ Err q → RefusedFor bs q
      read (Ok v) h r e = complete v (is_complete v.table v.tariff.risks) h r refl e
      read (Err p) h r e = let same : p ≡ q = cc in at_fault h (first_of count_of line_says 1 plan no_view (lines_in bs) q (r ∙ ap Err same))

      by : (b : Bool) → ltb most_bytes (length bs) ≡ b → cond b (at 0 (Err TooLong)) (lined then whole) ≡ Err q → RefusedFor bs q
      by true t e = let same : record { refusal = TooLong; line = 0 } ≡ q = cc in too_long (ltb-true most_bytes (length bs) t) (sym same)
      by false t e = read lined (ltb-false most_bytes (length bs) t) refl e

  whole_so : (v : View) → file_says bs ≡ Ok v → (length bs ≤ most_bytes) × Right bs v × (is_complete v.table v.tariff.risks ≡ true)
  whole_so v e = by (ltb most_bytes (length bs)) refl e
    where
      complete : (u : View) (c : Bool) → length bs ≤ most_bytes → lined ≡ Ok u → is_complete u.table u.tariff.risks ≡ c → cond c (Ok u) (at 8 (Err MissingRiskLine)) ≡ Ok v → (length bs ≤ most_bytes) × Right bs v × (is_complete v.table v.tariff.risks ≡ true)
      complete u true h r c e =
          let same : u ≡ v = cc in
          (h, right_of count_of line_says 1 plan no_view (lines_in bs) v (r ∙ ap Ok same), sym (ap (λ (x : View). is_complete x.table x.tariff.risks) same) ∙ c)
      complete u false h r c e = absurd (let z : ◌≡◌ {A = ℕ} 0 1 = cc in omega arith)

      read : (x : Result View Fault) → length bs ≤ most_bytes → lined ≡ x → (x then whole) ≡ Ok v → (length bs ≤ most_bytes) × Right bs v × (is_complete v.table v.tariff.risks ≡ true)
      read (Ok u) h r e = complete u (is_complete u.table u.tariff.risks) h r refl e
      read (Err p) h r e = absurd (let z : ◌≡◌ {A = ℕ} 0 1 = cc in omega arith)

      by : (b : Bool) → ltb most_bytes (length bs) ≡ b → cond b (at 0 (Err TooLong)) (lined then whole) ≡ Ok v → (length bs ≤ most_bytes) × Right bs v × (is_complete v.table v.tariff.risks ≡ true)
      by true t e = absurd (let z : ◌≡◌ {A = ℕ} 0 1 = cc in omega arith)
      by false t e = read lined (ltb-false most_bytes (length bs) t) refl e

  pub lawful : Lawful bs (file_says bs)
  lawful = record {
    refused = refused_so;
    only = only_so;
    read = λ v h r c. short h ∙ ap (λ (x : Result View Fault). x then whole) (read_of count_of line_says 1 plan no_view (lines_in bs) v r) ∙ ap (λ (b : Bool). cond b (Ok v) (at 8 (Err MissingRiskLine))) c;
    whole_read = whole_so;
  }
