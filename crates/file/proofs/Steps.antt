-- One line more, and what its fields say.
use Rattle.std.proofs.Common.{◌≡◌, ℕ, List, [], Ok, Err, Option, Result, sym, refl, ap, ◌∙◌, arith}
use Rattle.terms.specs.declared.refusal.Refusal.{Refusal}
use Rattle.text.specs.Chain.{◌then◌}
use Rattle.text.specs.Fields.{Piece}
use Rattle.text.specs.Lines.{fields_of}
use Rattle.file.specs.Meaning.{Added}
use Rattle.file.specs.Plan.{at}
use Rattle.file.specs.Tells.{Tells}
use Rattle.file.specs.View.{View}
use Rattle.file.specs.Walk.{on_text, with_rest, line_at, Next}
use Rattle.file.specs.declared.counts.Counts.{Counts}
use Rattle.file.specs.declared.fault.Fault.{Fault}
use Rattle.file.specs.declared.fault.Unread.{Unread}
use Rattle.file.specs.declared.fault.Unread.TheVariants.{Refused, NoMemory}

-- a count that failed
pub through : (u : Unread) (s : Result (ℕ × List ℕ) Fault) (t : Result (Counts × List ℕ) Fault) → ((q : Fault) → Err q ≡ s → Err q ≡ t) → Tells (λ (n : ℕ). (n, [])) (Err u) s → Tells (λ (n : Counts). (n, [])) (Err u) t
through (Refused q) s t k h = k q h
through NoMemory s t k h = tt

-- a row that was refused, and one that was taken
pub refused : (line : ℕ) (r : Result (Unit {0}) Refusal) (q : Fault) (s : Result View Refusal) (v : View) → Err q ≡ at line r → Added s r v → Err q ≡ at line s
refused line (Ok u) q s v h a = absurd (let z : ◌≡◌ {A = ℕ} 0 1 = cc in omega arith)
refused line (Err e) q s v h a = let same : q ≡ record { refusal = e; line = line } = cc in ap Err same ∙ ap (at line) (sym a)

pub taken : (line : ℕ) (r : Result (Unit {0}) Refusal) (u : Unit {0}) (s : Result View Refusal) (v : View) → Ok u ≡ at line r → Added s r v → Ok v ≡ s
taken line (Ok w) u s v h a = sym a
taken line (Err e) u s v h a = absurd (let z : ◌≡◌ {A = ℕ} 0 1 = cc in omega arith)

module _ {X : Type 0} (reads : List Piece → Result X Refusal) (n : ℕ) (bs rest : List ℕ) (ps : List Piece) where
  abbrev of_text : List ℕ → List ℕ → Result (X × List ℕ) Fault
  of_text text after = at n (reads (fields_of text)) then with_rest after

  pub next_is : (line : ℕ) (r : Result X Refusal) → Next n bs rest ps (Ok line) → r ≡ reads ps → (at n r then with_rest rest) ≡ line_at reads n bs
  next_is line r h e = ap (λ (x : Result X Refusal). at n x then with_rest rest) (e ∙ ap reads (sym h.1.2)) ∙ sym (ap (λ (o : Option (List ℕ × List ℕ)). on_text n o of_text) h.1.1)

  pub next_refused : (line : ℕ) (q : Fault) → Next n bs rest ps (Ok line) → Err q ≡ at line (reads ps) → line_at reads n bs ≡ Err q
  next_refused line q h e = sym (next_is line (reads ps) h refl) ∙ ap (λ (x : Result X Fault). x then with_rest rest) (ap (λ k. at k (reads ps)) (sym h.0) ∙ sym e)
