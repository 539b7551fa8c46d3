-- The parts of a file, one after another, are its lines, one after another.
use Rattle.std.proofs.Common.{◌≡◌, ℕ, ◌+◌, Bool, true, false, cond, eqb, List, [], ◌∷◌, ◌++◌, map, replicate, ℤ, pos, Some, None, Ok, Err, Option, Result, sym, refl, ap, ◌∙◌, append_assoc, append-nil, arith}
use lib.Signed.{lt_z}
use Rattle.terms.specs.declared.refusal.Refusal.{Refusal}
use Rattle.terms.specs.declared.refusal.Refusal.TheVariants.{Form}
use Rattle.text.specs.Chain.{◌then◌}
use Rattle.text.specs.Cursor.{letter_first, number_first, no_more}
use Rattle.text.specs.Fields.{Piece}
use Rattle.text.specs.Lines.{line_of, fields_of}
use Rattle.forms.specs.declared.section.Section.{Section}
use Rattle.forms.specs.declared.section.Section.TheVariants.{Head, Instruments, Contracts, Accounts, Openings, Limits, Risks, Ranges, Credits, Calls}
use Rattle.file.specs.Contents.{count_for, count_of, counts_of}
use Rattle.file.specs.File.{sections, plan}
use Rattle.file.specs.Parts.{contracts_at, accounts_at, risks_at, calls_at, end_at, contract_parts, opening_parts, tariff_parts, last_parts, bodies_of, parts_of}
use Rattle.file.specs.Plan.{Due, contents, row, lines_in, at, read_from}
use Rattle.file.specs.Says.{line_says}
use Rattle.file.specs.View.{View, no_view}
use Rattle.file.specs.Walk.{on_text, with_rest, line_at, body_of, title_at}
use Rattle.file.specs.declared.counts.Counts.{Counts}
use Rattle.file.specs.declared.fault.Fault.{Fault}
use Rattle.file.proofs.Walking.{then_ap, rows_read, one_row, count_read, title_read, end_read}

abbrev reads : ℕ → List (Due Section) → View → List ℕ → Result View Fault
reads n ds v bs = read_from count_of line_says n ds v (lines_in bs)

-- one step, and those after it
level : {X Y Z : Type 0} (r : Result X Fault) (a : Result Y Fault) (k : X → Result Y Fault) (f : X → Result Z Fault) (g : Z → Result Y Fault) → a ≡ (r then k) → ((x : X) → r ≡ Ok x → k x ≡ (f x then g)) → a ≡ ((r then f) then g)
level (Ok x) a k f g e h = e ∙ h x refl
level (Err q) a k f g e h = e

-- ---- the bodies
last_read : (n : Counts) (v : View) (bs : List ℕ) → reads (calls_at n) (replicate n.calls (row Calls) ++ []) v bs ≡ last_parts n v bs
last_read n v bs = rows_read count_of line_says n.calls (calls_at n) Calls [] v bs ∙ then_ap (body_of (line_says Calls) n.calls (calls_at n) v bs) _ _ (λ e. end_read count_of line_says (end_at n) e.0 e.1)

-- three sections, and what is due after them
three : (a b c : Section) (i j k m : ℕ) (ds : List (Due Section)) (v : View) (bs : List ℕ)
    → reads m (replicate i (row a) ++ (replicate j (row b) ++ (replicate k (row c) ++ ds))) v bs
    ≡ ((body_of (line_says a) i m v bs then λ p. body_of (line_says b) j (m + i) p.0 p.1 then λ q. body_of (line_says c) k (m + i + j) q.0 q.1) then λ s. reads (m + i + j + k) ds s.0 s.1)
three a b c i j k m ds v bs =
    level (body_of (line_says a) i m v bs) _ _ (λ p. body_of (line_says b) j (m + i) p.0 p.1 then λ q. body_of (line_says c) k (m + i + j) q.0 q.1) (λ s. reads (m + i + j + k) ds s.0 s.1)
    (rows_read count_of line_says i m a (replicate j (row b) ++ (replicate k (row c) ++ ds)) v bs)
    (λ p _. level (body_of (line_says b) j (m + i) p.0 p.1) _ _ (λ q. body_of (line_says c) k (m + i + j) q.0 q.1) (λ s. reads (m + i + j + k) ds s.0 s.1)
    (rows_read count_of line_says j (m + i) b (replicate k (row c) ++ ds) p.0 p.1)
    (λ q _. rows_read count_of line_says k (m + i + j) c ds q.0 q.1))

-- the rows that the contents lines promise
abbrev after_limits : Counts → List (Due Section)
after_limits n = replicate n.risks (row Risks) ++ (replicate n.ranges (row Ranges) ++ (replicate n.credits (row Credits) ++ (replicate n.calls (row Calls) ++ [])))

abbrev after_contracts : Counts → List (Due Section)
after_contracts n = replicate n.accounts (row Accounts) ++ (replicate n.openings (row Openings) ++ (replicate n.limits (row Limits) ++ after_limits n))

abbrev promised : Counts → List (Due Section)
promised n = row Head ∷ (replicate n.instruments (row Instruments) ++ (replicate n.contracts (row Contracts) ++ after_contracts n))

contracts_read : (n : Counts) (bs : List ℕ) → reads 12 (promised n) no_view bs ≡ (contract_parts n bs then λ c. reads (accounts_at n) (after_contracts n) c.0 c.1)
contracts_read n bs =
    level (line_at (line_says Head no_view) 12 bs) _ _ (λ h. body_of (line_says Instruments) n.instruments 13 h.0 h.1 then λ i. body_of (line_says Contracts) n.contracts (contracts_at n) i.0 i.1) (λ c. reads (accounts_at n) (after_contracts n) c.0 c.1)
    (one_row count_of line_says 12 Head (replicate n.instruments (row Instruments) ++ (replicate n.contracts (row Contracts) ++ after_contracts n)) no_view bs)
    (λ h _. level (body_of (line_says Instruments) n.instruments 13 h.0 h.1) _ _ (λ i. body_of (line_says Contracts) n.contracts (contracts_at n) i.0 i.1) (λ c. reads (accounts_at n) (after_contracts n) c.0 c.1)
    (rows_read count_of line_says n.instruments 13 Instruments (replicate n.contracts (row Contracts) ++ after_contracts n) h.0 h.1)
    (λ i _. rows_read count_of line_says n.contracts (contracts_at n) Contracts (after_contracts n) i.0 i.1))

bodies_read : (n : Counts) (bs : List ℕ) → reads 12 (promised n) no_view bs ≡ bodies_of n bs
bodies_read n bs =
    contracts_read n bs
    ∙ then_ap (contract_parts n bs) _ _ (λ c.
    three Accounts Openings Limits n.accounts n.openings n.limits (accounts_at n) (after_limits n) c.0 c.1
    ∙ then_ap (opening_parts n c.0 c.1) _ _ (λ o.
    three Risks Ranges Credits n.risks n.ranges n.credits (risks_at n) (replicate n.calls (row Calls) ++ []) o.0 o.1
    ∙ then_ap (tariff_parts n o.0 o.1) _ _ (λ t. last_read n t.0 t.1)))

-- ---- the contents
regroup : {X : Type 0} (a b c d e f g h i j : List X) → ((((((((a ++ b) ++ c) ++ d) ++ e) ++ f) ++ g) ++ h) ++ i) ++ j ≡ a ++ (b ++ (c ++ (d ++ (e ++ (f ++ (g ++ (h ++ (i ++ (j ++ [])))))))))
regroup a b c d e f g h i j = simp (append_assoc, append-nil)

-- the head's count is 1
head_count : (ps : List Piece) (k : ℕ) → count_of Head ps ≡ Ok k → k ≡ 1
head_count ps k e = letters (letter_first ps) e
  where
    counted : (p q : Bool) → cond p (Err Form) (cond q (Err Form) (Ok 1)) ≡ Ok k → k ≡ 1
    counted true q e = absurd (let z : ◌≡◌ {A = ℕ} 0 1 = cc in omega arith)
    counted false true e = absurd (let z : ◌≡◌ {A = ℕ} 0 1 = cc in omega arith)
    counted false false e = let same : 1 ≡ k = cc in sym same

    lettered : (b : Bool) (z : ℤ) → cond b (count_for Head z) (Err Form) ≡ Ok k → k ≡ 1
    lettered true z e = counted (lt_z z (pos 1)) (lt_z (pos 1) z) e
    lettered false z e = absurd (let w : ◌≡◌ {A = ℕ} 0 1 = cc in omega arith)

    ended : (r : Result (Unit {0}) Refusal) (c : ℕ) (z : ℤ) → (r then λ _. cond (eqb c 72) (count_for Head z) (Err Form)) ≡ Ok k → k ≡ 1
    ended (Ok u) c z e = lettered (eqb c 72) z e
    ended (Err x) c z e = absurd (let w : ◌≡◌ {A = ℕ} 0 1 = cc in omega arith)

    numbers : (r : Result (ℤ × List Piece) Refusal) (c : ℕ) → (r then λ n. no_more n.1 then λ _. cond (eqb c 72) (count_for Head n.0) (Err Form)) ≡ Ok k → k ≡ 1
    numbers (Ok n) c e = ended (no_more n.1) c n.0 e
    numbers (Err x) c e = absurd (let w : ◌≡◌ {A = ℕ} 0 1 = cc in omega arith)

    letters : (r : Result (ℕ × List Piece) Refusal) → (r then λ l. number_first l.1 then λ n. no_more n.1 then λ _. cond (eqb l.0 72) (count_for Head n.0) (Err Form)) ≡ Ok k → k ≡ 1
    letters (Ok l) e = numbers (number_first l.1) l.0 e
    letters (Err x) e = absurd (let w : ◌≡◌ {A = ℕ} 0 1 = cc in omega arith)

one_head : (n : ℕ) (bs : List ℕ) (p : ℕ × List ℕ) → line_at (count_of Head) n bs ≡ Ok p → p.0 ≡ 1
one_head n bs p e = lines (line_of bs) e
  where
    counts : (ps : List Piece) (r : Result ℕ Refusal) (rest : List ℕ) → count_of Head ps ≡ r → (at n r then with_rest rest) ≡ Ok p → p.0 ≡ 1
    counts ps (Ok k) rest is e = let same : (k, rest) ≡ p = cc in sym (ap (λ (q : ℕ × List ℕ). q.0) same) ∙ head_count ps k is
    counts ps (Err x) rest is e = absurd (let w : ◌≡◌ {A = ℕ} 0 1 = cc in omega arith)

    lines : (o : Option (List ℕ × List ℕ)) → on_text n o (λ text rest. at n (count_of Head (fields_of text)) then with_rest rest) ≡ Ok p → p.0 ≡ 1
    lines None e = absurd (let w : ◌≡◌ {A = ℕ} 0 1 = cc in omega arith)
    lines (Some q) e = counts (fields_of q.0) (count_of Head (fields_of q.0)) q.1 refl e

-- the contents lines, and then the bodies
abbrev then_bodies : Counts × List ℕ → Result View Fault
then_bodies n = reads 12 (promised n.0) no_view n.1

contents_read : (bs : List ℕ) → reads 2 (map contents sections) no_view bs ≡ (counts_of bs then then_bodies)
contents_read bs =
    level (line_at (count_of Head) 2 bs) _ _ _ then_bodies (count_read count_of line_says 2 Head _ no_view bs) (λ h eh.
    level (line_at (count_of Instruments) 3 h.1) _ _ _ then_bodies (count_read count_of line_says 3 Instruments _ no_view h.1) (λ i _.
    level (line_at (count_of Contracts) 4 i.1) _ _ _ then_bodies (count_read count_of line_says 4 Contracts _ no_view i.1) (λ c _.
    level (line_at (count_of Accounts) 5 c.1) _ _ _ then_bodies (count_read count_of line_says 5 Accounts _ no_view c.1) (λ a _.
    level (line_at (count_of Openings) 6 a.1) _ _ _ then_bodies (count_read count_of line_says 6 Openings _ no_view a.1) (λ o _.
    level (line_at (count_of Limits) 7 o.1) _ _ _ then_bodies (count_read count_of line_says 7 Limits _ no_view o.1) (λ l _.
    level (line_at (count_of Risks) 8 l.1) _ _ _ then_bodies (count_read count_of line_says 8 Risks _ no_view l.1) (λ r _.
    level (line_at (count_of Ranges) 9 r.1) _ _ _ then_bodies (count_read count_of line_says 9 Ranges _ no_view r.1) (λ k _.
    level (line_at (count_of Credits) 10 k.1) _ _ _ then_bodies (count_read count_of line_says 10 Credits _ no_view k.1) (λ x _.
    level (line_at (count_of Calls) 11 x.1) _ _ _ then_bodies (count_read count_of line_says 11 Calls _ no_view x.1) (λ e _.
    ap (λ (ds : List (Due Section)). reads 12 ds no_view e.1)
    (regroup (replicate h.0 (row Head)) (replicate i.0 (row Instruments)) (replicate c.0 (row Contracts)) (replicate a.0 (row Accounts)) (replicate o.0 (row Openings)) (replicate l.0 (row Limits)) (replicate r.0 (row Risks)) (replicate k.0 (row Ranges)) (replicate x.0 (row Credits)) (replicate e.0 (row Calls))
    ∙ ap (λ m. replicate m (row Head) ++ (replicate i.0 (row Instruments) ++ (replicate c.0 (row Contracts) ++ (replicate a.0 (row Accounts) ++ (replicate o.0 (row Openings) ++ (replicate l.0 (row Limits) ++ (replicate r.0 (row Risks) ++ (replicate k.0 (row Ranges) ++ (replicate x.0 (row Credits) ++ (replicate e.0 (row Calls) ++ [])))))))))) (one_head 2 bs h eh))))))))))))

pub parts_read : (bs : List ℕ) → read_from count_of line_says 1 plan no_view (lines_in bs) ≡ parts_of bs
parts_read bs = title_read count_of line_says 1 (map contents sections) no_view bs ∙ then_ap (title_at 1 bs) _ _ (λ rest. contents_read rest ∙ then_ap (counts_of rest) _ _ (λ n. bodies_read n.0 n.1))
