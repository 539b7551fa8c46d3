-- A file is refused exactly at its first line at fault.
use Rattle.std.proofs.Common.{◌≡◌, ℕ, zero, suc, ◌+◌, List, [], ◌∷◌, ◌++◌, length, Some, None, Ok, Err, Option, Result, refl, ap, ◌∙◌, ap₂, arith}
use Rattle.std.specs.Result.{result_err}
use Rattle.terms.specs.declared.refusal.Refusal.{Refusal}
use Rattle.terms.specs.declared.refusal.Refusal.TheVariants.{Form}
use Rattle.text.specs.Chain.{◌then◌}
use Rattle.text.specs.Fields.{Piece}
use Rattle.file.specs.declared.fault.Fault.{Fault}
use Rattle.file.specs.Plan.{Line, Due, at, onward, nth, judged, read_from, after, fault_of, FirstFault}

told : {V : Type 0} (n : ℕ) (e : Refusal) (q : Fault) → q.line ≡ n + 0 → Some e ≡ Some q.refusal → ◌≡◌ {A = Result V Fault} (Err (record { refusal = e; line = n })) (Err q)
told n e q h k =
    let same : e ≡ q.refusal = cc in
    let here : n ≡ q.line = omega arith in
    ap₂ (λ (x : Refusal) (m : ℕ). Err (record { refusal = x; line = m })) same here

module _ {S V : Type 0} (counts : S → List Piece → Result ℕ Refusal) (says : S → V → List Piece → Result V Refusal) where
  one_more : (n : ℕ) (d : Due S) (ds : List (Due S)) (v : V) (l : Line) (ls : List Line) (q : Fault) (r : Result (List (Due S) × V) Refusal) → judged counts says d v l ≡ r
      → ((m : ℕ) (es : List (Due S)) (u : V) → read_from counts says m es u ls ≡ Err q → FirstFault counts says m es u ls q)
      → (at n r then λ p. read_from counts says (n + 1) (ds ++ p.0) p.1 ls) ≡ Err q → FirstFault counts says n (d ∷ ds) v (l ∷ ls) q
  one_more n d ds v l ls q (Ok p) is f e =
      let r = f (n + 1) (ds ++ p.0) p.1 e in
      let number = r.number in
      record {
        before = suc r.before;
        number = omega arith;
        due = r.due;
        seen = r.seen;
        right = ap (λ (x : Result (List (Due S) × V) Refusal). onward x (λ p. after counts says r.before (ds ++ p.0) p.1 ls)) is ∙ r.right;
        wrong = r.wrong;
      }
  one_more n d ds v l ls q (Err x) is f e =
      let same : record { refusal = x; line = n } ≡ q = cc in
      record {
        before = 0;
        number = omega (arith, ap (λ (y : Fault). y.line) same);
        due = d ∷ ds;
        seen = v;
        right = refl;
        wrong = ap result_err is ∙ ap (λ (y : Fault). Some y.refusal) same;
      }

  -- a refusal is told where it is met
  pub first_of : (n : ℕ) (ds : List (Due S)) (v : V) (ls : List Line) (q : Fault) → read_from counts says n ds v ls ≡ Err q → FirstFault counts says n ds v ls q
  first_of n [] v [] q e = absurd (let z : ◌≡◌ {A = ℕ} 0 1 = cc in omega arith)
  first_of n [] v (l ∷ ls) q e =
      let same : record { refusal = Form; line = n } ≡ q = cc in
      record { before = 0; number = omega (arith, ap (λ (y : Fault). y.line) same); due = []; seen = v; right = refl; wrong = ap (λ (y : Fault). Some y.refusal) same }
  first_of n (d ∷ ds) v [] q e =
      let same : record { refusal = Form; line = n } ≡ q = cc in
      record { before = 0; number = omega (arith, ap (λ (y : Fault). y.line) same); due = d ∷ ds; seen = v; right = refl; wrong = ap (λ (y : Fault). Some y.refusal) same }
  first_of n (d ∷ ds) v (l ∷ ls) q e = one_more n d ds v l ls q (judged counts says d v l) refl (λ m es u. first_of m es u ls q) e

  told_here : (n : ℕ) (ds : List (Due S)) (v : V) (ls : List Line) (q : Fault) → q.line ≡ n + 0 → fault_of counts says ds v (nth ls 0) ≡ Some q.refusal → read_from counts says n ds v ls ≡ Err q
  told_here n [] v [] q h w = absurd (let z : ◌≡◌ {A = ℕ} 0 1 = cc in omega arith)
  told_here n [] v (l ∷ ls) q h w = told n Form q h w
  told_here n (d ∷ ds) v [] q h w = told n Form q h w
  told_here n (d ∷ ds) v (l ∷ ls) q h w = by (judged counts says d v l) w
    where
      by : (r : Result (List (Due S) × V) Refusal) → result_err r ≡ Some q.refusal → (at n r then λ p. read_from counts says (n + 1) (ds ++ p.0) p.1 ls) ≡ Err q
      by (Ok p) w = absurd (let z : ◌≡◌ {A = ℕ} 0 1 = cc in omega arith)
      by (Err e) w = told n e q h w

  fault_told_at : (k n : ℕ) (ds : List (Due S)) (v : V) (ls : List Line) (q : Fault) (due : List (Due S)) (seen : V) → q.line ≡ n + k → after counts says k ds v ls ≡ Some (due, seen) → fault_of counts says due seen (nth ls k) ≡ Some q.refusal → read_from counts says n ds v ls ≡ Err q
  fault_told_at zero n ds v ls q due seen h r w = told_here n ds v ls q h (ap (λ (o : Option (List (Due S) × V)). fault_from ls 0 o) r ∙ w)
    where
      fault_from : List Line → ℕ → Option (List (Due S) × V) → Option Refusal
      fault_from ls k None = None
      fault_from ls k (Some p) = fault_of counts says p.0 p.1 (nth ls k)
  fault_told_at (suc k) n ds v [] q due seen h r w = absurd (let z : ◌≡◌ {A = ℕ} 0 1 = cc in omega arith)
  fault_told_at (suc k) n [] v (l ∷ ls) q due seen h r w = absurd (let z : ◌≡◌ {A = ℕ} 0 1 = cc in omega arith)
  fault_told_at (suc k) n (d ∷ ds) v (l ∷ ls) q due seen h r w = by (judged counts says d v l) (λ m es u. fault_told_at k m es u ls q due seen) r
    where
      by : (x : Result (List (Due S) × V) Refusal)
          → ((m : ℕ) (es : List (Due S)) (u : V) → q.line ≡ m + k → after counts says k es u ls ≡ Some (due, seen) → fault_of counts says due seen (nth ls k) ≡ Some q.refusal → read_from counts says m es u ls ≡ Err q)
          → onward x (λ p. after counts says k (ds ++ p.0) p.1 ls) ≡ Some (due, seen) → (at n x then λ p. read_from counts says (n + 1) (ds ++ p.0) p.1 ls) ≡ Err q
      by (Ok p) f r = f (n + 1) (ds ++ p.0) p.1 (omega arith) r w
      by (Err e) f r = absurd (let z : ◌≡◌ {A = ℕ} 0 1 = cc in omega arith)

  pub told_of : (n : ℕ) (ds : List (Due S)) (v : V) (ls : List Line) (q : Fault) → FirstFault counts says n ds v ls q → read_from counts says n ds v ls ≡ Err q
  told_of n ds v ls q f = fault_told_at f.before n ds v ls q f.due f.seen f.number f.right f.wrong

  -- ---- no line at fault
  pub right_of : (n : ℕ) (ds : List (Due S)) (v : V) (ls : List Line) (u : V) → read_from counts says n ds v ls ≡ Ok u → after counts says (length ls) ds v ls ≡ Some ([], u)
  right_of n [] v [] u e = let same : v ≡ u = cc in ap (λ (x : V). Some ([], x)) same
  right_of n (d ∷ ds) v [] u e = absurd (let z : ◌≡◌ {A = ℕ} 0 1 = cc in omega arith)
  right_of n [] v (l ∷ ls) u e = absurd (let z : ◌≡◌ {A = ℕ} 0 1 = cc in omega arith)
  right_of n (d ∷ ds) v (l ∷ ls) u e = by (judged counts says d v l) (λ m es w. right_of m es w ls u) e
    where
      by : (x : Result (List (Due S) × V) Refusal) → ((m : ℕ) (es : List (Due S)) (w : V) → read_from counts says m es w ls ≡ Ok u → after counts says (length ls) es w ls ≡ Some ([], u))
          → (at n x then λ p. read_from counts says (n + 1) (ds ++ p.0) p.1 ls) ≡ Ok u → onward x (λ p. after counts says (length ls) (ds ++ p.0) p.1 ls) ≡ Some ([], u)
      by (Ok p) f e = f (n + 1) (ds ++ p.0) p.1 e
      by (Err q) f e = absurd (let z : ◌≡◌ {A = ℕ} 0 1 = cc in omega arith)

  pub read_of : (n : ℕ) (ds : List (Due S)) (v : V) (ls : List Line) (u : V) → after counts says (length ls) ds v ls ≡ Some ([], u) → read_from counts says n ds v ls ≡ Ok u
  read_of n [] v [] u e = let same : v ≡ u = ap (λ (o : Option (List (Due S) × V)). value_in o) e in ap Ok same
    where
      value_in : Option (List (Due S) × V) → V
      value_in None = v
      value_in (Some p) = p.1
  read_of n (d ∷ ds) v [] u e = absurd (none (ap (λ (o : Option (List (Due S) × V)). length_in o) e))
    where
      length_in : Option (List (Due S) × V) → ℕ
      length_in None = 0
      length_in (Some p) = length p.0

      none : suc (length ds) ≡ 0 → ⊥
      none h = omega arith
  read_of n [] v (l ∷ ls) u e = absurd (let z : ◌≡◌ {A = ℕ} 0 1 = cc in omega arith)
  read_of n (d ∷ ds) v (l ∷ ls) u e = by (judged counts says d v l) (λ m es w. read_of m es w ls u) e
    where
      by : (x : Result (List (Due S) × V) Refusal) → ((m : ℕ) (es : List (Due S)) (w : V) → after counts says (length ls) es w ls ≡ Some ([], u) → read_from counts says m es w ls ≡ Ok u)
          → onward x (λ p. after counts says (length ls) (ds ++ p.0) p.1 ls) ≡ Some ([], u) → (at n x then λ p. read_from counts says (n + 1) (ds ++ p.0) p.1 ls) ≡ Ok u
      by (Ok p) f e = f (n + 1) (ds ++ p.0) p.1 e
      by (Err q) f e = absurd (let z : ◌≡◌ {A = ℕ} 0 1 = cc in omega arith)
