-- Reading part after part is reading line by line.
use Rattle.std.proofs.Common.{◌≡◌, ℕ, zero, suc, ◌+◌, Bool, true, false, cond, eqb, List, [], ◌∷◌, ◌++◌, replicate, Some, None, Ok, Err, Option, Result, sym, refl, ap, ◌∙◌, append_assoc, append-nil, add-zero, arith}
use Rattle.std.specs.Str.{bytes_eq}
use Rattle.terms.specs.declared.refusal.Refusal.{Refusal}
use Rattle.terms.specs.declared.refusal.Refusal.TheVariants.{Form}
use Rattle.text.specs.Chain.{◌then◌}
use Rattle.text.specs.Fields.{Piece}
use Rattle.text.specs.Lines.{line_from, line_of, fields_of}
use Rattle.file.specs.declared.fault.Fault.{Fault}
use Rattle.file.specs.Plan.{Line, whole, unended, last_bytes, lines_from, lines_in, Due, title, contents, row, title_is, at, read_with, promises, read_from}
use Rattle.file.specs.Walk.{on_text, with_rest, line_at, body_of, title_at, at_end}

-- ---- steps
pub then_ap : {E X Y : Type 0} (r : Result X E) (f g : X → Result Y E) → ((x : X) → f x ≡ g x) → (r then f) ≡ (r then g)
then_ap (Ok x) f g h = h x
then_ap (Err e) f g h = refl

pub then_then : {E X Y Z : Type 0} (r : Result X E) (f : X → Result Y E) (g : Y → Result Z E) → ((r then f) then g) ≡ (r then λ x. f x then g)
then_then (Ok x) f g = refl
then_then (Err e) f g = refl

-- ---- the first line, and the lines of what follows it
-- bytes without a line's end
abbrev Ends : List Line → Type 0
Ends [] = Unit {0}
Ends (whole w ∷ ls) = ⊥
Ends (unended w ∷ ls) = Unit {0}

last_ends : (w : List ℕ) → Ends (last_bytes w)
last_ends [] = tt
last_ends (b ∷ w) = tt

-- the first line with the lines of what follows it, or no line
abbrev Split : Option (List ℕ × List ℕ) → List Line → Type 0
Split None ls = Ends ls
Split (Some p) ls = ls ≡ whole p.0 ∷ lines_in p.1

splits : (w bs : List ℕ) → Split (line_from w bs) (lines_from w bs)
splits w [] = last_ends w
splits w (b ∷ bs) = by (eqb b 10) (splits (w ++ b ∷ []) bs)
  where
    by : (e : Bool) → Split (line_from (w ++ b ∷ []) bs) (lines_from (w ++ b ∷ []) bs) → Split (cond e (Some (w, bs)) (line_from (w ++ b ∷ []) bs)) (cond e (whole w ∷ lines_from [] bs) (lines_from (w ++ b ∷ []) bs))
    by true h = refl
    by false h = h

unended_last : (w bs : List ℕ) → line_from w bs ≡ None → lines_from w bs ≡ last_bytes (w ++ bs)
unended_last w [] e = ap last_bytes (sym (append-nil w))
unended_last w (b ∷ bs) e = by (eqb b 10) (unended_last (w ++ b ∷ []) bs) e
  where
    by : (p : Bool) → (line_from (w ++ b ∷ []) bs ≡ None → lines_from (w ++ b ∷ []) bs ≡ last_bytes ((w ++ b ∷ []) ++ bs)) → cond p (Some (w, bs)) (line_from (w ++ b ∷ []) bs) ≡ None → cond p (whole w ∷ lines_from [] bs) (lines_from (w ++ b ∷ []) bs) ≡ last_bytes (w ++ b ∷ bs)
    by true f e = absurd (let z : ◌≡◌ {A = ℕ} 0 1 = cc in omega arith)
    by false f e = f e ∙ ap last_bytes (append_assoc w (b ∷ []) bs)

module _ {S V : Type 0} (counts : S → List Piece → Result ℕ Refusal) (says : S → V → List Piece → Result V Refusal) where
  -- what is due and not there
  missing : (n : ℕ) (d : Due S) (ds : List (Due S)) (v : V) (ls : List Line) → Ends ls → read_from counts says n (d ∷ ds) v ls ≡ at n (Err Form)
  missing n d ds v [] e = refl
  missing n d ds v (whole w ∷ ls) e = absurd e
  missing n title ds v (unended w ∷ ls) e = refl
  missing n (contents s) ds v (unended w ∷ ls) e = refl
  missing n (row s) ds v (unended w ∷ ls) e = refl

  -- ---- a row, and the rows of a section
  pub one_row : (n : ℕ) (s : S) (ds : List (Due S)) (v : V) (bs : List ℕ) → read_from counts says n (row s ∷ ds) v (lines_in bs) ≡ (line_at (says s v) n bs then λ p. read_from counts says (n + 1) ds p.0 (lines_in p.1))
  one_row n s ds v bs = by (line_of bs) (lines_in bs) (splits [] bs)
    where
      by : (o : Option (List ℕ × List ℕ)) (ls : List Line) → Split o ls → read_from counts says n (row s ∷ ds) v ls ≡ (on_text n o (λ text rest. at n (says s v (fields_of text)) then with_rest rest) then λ p. read_from counts says (n + 1) ds p.0 (lines_in p.1))
      by None ls e = missing n (row s) ds v ls e
      by (Some p) ls e = ap (read_from counts says n (row s ∷ ds) v) e ∙ said (says s v (fields_of p.0))
        where
          said : (r : Result V Refusal) → (at n (r then read_with) then λ q. read_from counts says (n + 1) (ds ++ q.0) q.1 (lines_in p.1)) ≡ ((at n r then with_rest p.1) then λ q. read_from counts says (n + 1) ds q.0 (lines_in q.1))
          said (Ok u) = ap (λ (es : List (Due S)). read_from counts says (n + 1) es u (lines_in p.1)) (append-nil ds)
          said (Err e) = refl

  pub rows_read : (k n : ℕ) (s : S) (ds : List (Due S)) (v : V) (bs : List ℕ) → read_from counts says n (replicate k (row s) ++ ds) v (lines_in bs) ≡ (body_of (says s) k n v bs then λ p. read_from counts says (n + k) ds p.0 (lines_in p.1))
  rows_read zero n s ds v bs = ap (λ m. read_from counts says m ds v (lines_in bs)) (sym (add-zero n))
  rows_read (suc k) n s ds v bs =
      one_row n s (replicate k (row s) ++ ds) v bs
      ∙ then_ap (line_at (says s v) n bs) _ _ (λ p. rows_read k (n + 1) s ds p.0 p.1 ∙ ap (λ m. body_of (says s) k (n + 1) p.0 p.1 then λ q. read_from counts says m ds q.0 (lines_in q.1)) (shifted n k))
      ∙ sym (then_then (line_at (says s v) n bs) (λ p. body_of (says s) k (n + 1) p.0 p.1) (λ q. read_from counts says (n + suc k) ds q.0 (lines_in q.1)))
    where
      shifted : (n k : ℕ) → n + 1 + k ≡ n + suc k
      shifted n k = omega arith

  -- ---- a contents line
  pub count_read : (n : ℕ) (s : S) (ds : List (Due S)) (v : V) (bs : List ℕ) → read_from counts says n (contents s ∷ ds) v (lines_in bs) ≡ (line_at (counts s) n bs then λ p. read_from counts says (n + 1) (ds ++ replicate p.0 (row s)) v (lines_in p.1))
  count_read n s ds v bs = by (line_of bs) (lines_in bs) (splits [] bs)
    where
      by : (o : Option (List ℕ × List ℕ)) (ls : List Line) → Split o ls → read_from counts says n (contents s ∷ ds) v ls ≡ (on_text n o (λ text rest. at n (counts s (fields_of text)) then with_rest rest) then λ p. read_from counts says (n + 1) (ds ++ replicate p.0 (row s)) v (lines_in p.1))
      by None ls e = missing n (contents s) ds v ls e
      by (Some p) ls e = ap (read_from counts says n (contents s ∷ ds) v) e ∙ said (counts s (fields_of p.0))
        where
          said : (r : Result ℕ Refusal) → (at n (r then promises s v) then λ q. read_from counts says (n + 1) (ds ++ q.0) q.1 (lines_in p.1)) ≡ ((at n r then with_rest p.1) then λ q. read_from counts says (n + 1) (ds ++ replicate q.0 (row s)) v (lines_in q.1))
          said (Ok k) = refl
          said (Err e) = refl

  -- ---- the title
  pub title_read : (n : ℕ) (ds : List (Due S)) (v : V) (bs : List ℕ) → read_from counts says n (title ∷ ds) v (lines_in bs) ≡ (title_at n bs then λ rest. read_from counts says (n + 1) ds v (lines_in rest))
  title_read n ds v bs = by (line_of bs) (lines_in bs) (splits [] bs)
    where
      by : (o : Option (List ℕ × List ℕ)) (ls : List Line) → Split o ls → read_from counts says n (title ∷ ds) v ls ≡ (on_text n o (λ text rest. cond (bytes_eq text title_is) (Ok rest) (at n (Err Form))) then λ rest. read_from counts says (n + 1) ds v (lines_in rest))
      by None ls e = missing n title ds v ls e
      by (Some p) ls e = ap (read_from counts says n (title ∷ ds) v) e ∙ said (bytes_eq p.0 title_is)
        where
          said : (b : Bool) → (at n (cond b (read_with v) (Err Form)) then λ q. read_from counts says (n + 1) (ds ++ q.0) q.1 (lines_in p.1)) ≡ (cond b (Ok p.1) (at n (Err Form)) then λ rest. read_from counts says (n + 1) ds v (lines_in rest))
          said true = ap (λ (es : List (Due S)). read_from counts says (n + 1) es v (lines_in p.1)) (append-nil ds)
          said false = refl

  -- ---- the end
  pub end_read : (n : ℕ) (v : V) (bs : List ℕ) → read_from counts says n [] v (lines_in bs) ≡ at_end n v bs
  end_read n v [] = refl
  end_read n v (b ∷ bs) = by (line_of (b ∷ bs)) (lines_in (b ∷ bs)) (splits [] (b ∷ bs)) (unended_last [] (b ∷ bs))
    where
      by : (o : Option (List ℕ × List ℕ)) (ls : List Line) → Split o ls → (o ≡ None → ls ≡ unended (b ∷ bs) ∷ []) → read_from counts says n [] v ls ≡ at n (Err Form)
      by None ls s f = ap (read_from counts says n [] v) (f refl)
      by (Some p) ls s f = ap (read_from counts says n [] v) s

-- ---- one row of a body, from its front
module _ {V : Type 0} (says : V → List Piece → Result V Refusal) (k m n : ℕ) (v : V) (bs : List ℕ) (s : Result (V × List ℕ) Fault) (e : body_of says k n v bs ≡ s) (more : k ≡ suc m) where
  front : (line_at (says v) n bs then λ p. body_of says m (n + 1) p.0 p.1) ≡ s
  front = sym (ap (λ j. body_of says j n v bs) more) ∙ e

  pub body_more : (u : V) (rest : List ℕ) → line_at (says v) n bs ≡ Ok (u, rest) → body_of says m (n + 1) u rest ≡ s
  body_more u rest h = sym (ap (λ (r : Result (V × List ℕ) Fault). r then λ p. body_of says m (n + 1) p.0 p.1) h) ∙ front

  pub body_stops : (q : Fault) → line_at (says v) n bs ≡ Err q → Err q ≡ s
  body_stops q h = sym (ap (λ (r : Result (V × List ℕ) Fault). r then λ p. body_of says m (n + 1) p.0 p.1) h) ∙ front
