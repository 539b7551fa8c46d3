-- Calls and answers, one more.
use Rattle.std.proofs.Common.{◌≡◌, ℕ, suc, ◌+◌, ◌<◌, ◌≤◌, List, [], ◌∷◌, ◌++◌, length, get_or, take, Ok, Err, Result, sym, refl, ap, ◌∙◌, ap₂, arith}
use Rattle.std.proofs.lemmas.List.{take_more, take_all}
use Rattle.terms.specs.declared.refusal.Refusal.{Refusal}
use Rattle.books.specs.declared.entry.Call.{Call}
use Rattle.books.specs.declared.entry.Call.TheVariants.{Enter, Cancel, Transfer, LimitMember, LimitAgents}
use Rattle.books.specs.declared.entry.Entry.{Entry}
use Rattle.books.specs.State.{State}
use Rattle.books.specs.Answers.{answer, after, answers, run, booked, booked_all, OpenedAlike}

answers_long : (s : State) (cs : List Call) → length (answers s cs) ≡ length cs
answers_long s [] = refl
answers_long s (c ∷ cs) = ap suc (answers_long (after s c (answer s c)) cs)

answers_push : (s : State) (cs : List Call) (c : Call) → answers s (cs ++ c ∷ []) ≡ answers s cs ++ answer (run s cs (answers s cs)) c ∷ []
answers_push s [] c = refl
answers_push s (x ∷ cs) c = ap (λ (l : List (Result ℕ Refusal)). answer s x ∷ l) (answers_push (after s x (answer s x)) cs c)

run_push : (s : State) (cs : List Call) (rs : List (Result ℕ Refusal)) (c : Call) (r : Result ℕ Refusal) → length rs ≡ length cs → run s (cs ++ c ∷ []) (rs ++ r ∷ []) ≡ after (run s cs rs) c r
run_push s [] [] c r h = refl
run_push s [] (x ∷ rs) c r h = absurd (omega arith)
run_push s (x ∷ cs) [] c r h = absurd (omega arith)
run_push s (x ∷ cs) (y ∷ rs) c r h = run_push (after s x y) cs rs c r (omega arith)

-- a book that has taken the first i calls
pub record Driven (s t : State) (cs : List Call) (rs : List (Result ℕ Refusal)) (i : ℕ) : Type 0 where
  pub answered : rs ≡ answers s (take i cs)
  pub left : t ≡ run s (take i cs) rs

pub driven_none : (s : State) (cs : List Call) (rs : List (Result ℕ Refusal)) → rs ≡ [] → Driven s s cs rs 0
driven_none s cs rs e = record { answered = e; left = refl }

pub driven_more : (s t t' : State) (cs : List Call) (rs rs' : List (Result ℕ Refusal)) (i : ℕ) (d : Call) (r : Result ℕ Refusal) → i < length cs → Driven s t cs rs i → r ≡ answer t (get_or cs i d) → t' ≡ after t (get_or cs i d) r → rs' ≡ rs ++ r ∷ [] → Driven s t' cs rs' (i + 1)
driven_more s t t' cs rs rs' i d r h so is then more =
    let c = get_or cs i d in
    let now : take (i + 1) cs ≡ take i cs ++ c ∷ [] = take_more cs i d h in
    let was : t ≡ run s (take i cs) (answers s (take i cs)) = so.left ∙ ap (run s (take i cs)) so.answered in
    let long : length rs ≡ length (take i cs) = ap length so.answered ∙ answers_long s (take i cs) in
    record {
      answered = more ∙ ap₂ (λ (l : List (Result ℕ Refusal)) (x : Result ℕ Refusal). l ++ x ∷ []) so.answered (is ∙ ap (λ (x : State). answer x c) was) ∙ sym (ap (answers s) now ∙ answers_push s (take i cs) c);
      left = then ∙ ap (λ (x : State). after x c r) so.left ∙ sym (run_push s (take i cs) rs c r long) ∙ ap (run s (take i cs ++ c ∷ [])) (sym more) ∙ ap (λ (x : List Call). run s x rs') (sym now);
    }

-- all calls
pub driven_all : (s t : State) (cs : List Call) (rs : List (Result ℕ Refusal)) (i : ℕ) → length cs ≤ i → Driven s t cs rs i → (rs ≡ answers s cs) × (t ≡ run s cs rs)
driven_all s t cs rs i h so = (so.answered ∙ ap (answers s) (take_all i cs h), so.left ∙ ap (λ (x : List Call). run s x rs) (take_all i cs h))

-- ---- what a run keeps
alike_refl : (s : State) → OpenedAlike s s
alike_refl s = record { date = refl; accounts = refl; listings = refl; opening = refl }

alike_then : (s t u : State) → OpenedAlike s t → OpenedAlike t u → OpenedAlike s u
alike_then s t u a b = record { date = b.date ∙ a.date; accounts = b.accounts ∙ a.accounts; listings = b.listings ∙ a.listings; opening = b.opening ∙ a.opening }

after_alike : (s : State) (c : Call) (r : Result ℕ Refusal) → OpenedAlike s (after s c r)
after_alike s c (Err e) = alike_refl s
after_alike s (Enter t) (Ok n) = record { date = refl; accounts = refl; listings = refl; opening = refl }
after_alike s (Cancel k) (Ok n) = record { date = refl; accounts = refl; listings = refl; opening = refl }
after_alike s (Transfer k a) (Ok n) = record { date = refl; accounts = refl; listings = refl; opening = refl }
after_alike s (LimitMember c m) (Ok n) = record { date = refl; accounts = refl; listings = refl; opening = refl }
after_alike s (LimitAgents c m) (Ok n) = record { date = refl; accounts = refl; listings = refl; opening = refl }

after_booked : (s : State) (c : Call) (r : Result ℕ Refusal) → (after s c r).journal ≡ booked s.journal c r
after_booked s c (Err e) = refl
after_booked s (Enter t) (Ok n) = refl
after_booked s (Cancel k) (Ok n) = refl
after_booked s (Transfer k a) (Ok n) = refl
after_booked s (LimitMember c m) (Ok n) = refl
after_booked s (LimitAgents c m) (Ok n) = refl

pub run_alike : (s : State) (cs : List Call) (rs : List (Result ℕ Refusal)) → OpenedAlike s (run s cs rs)
run_alike s [] rs = alike_refl s
run_alike s (c ∷ cs) [] = alike_refl s
run_alike s (c ∷ cs) (r ∷ rs) = alike_then s (after s c r) _ (after_alike s c r) (run_alike (after s c r) cs rs)

pub run_booked : (s : State) (cs : List Call) (rs : List (Result ℕ Refusal)) → (run s cs rs).journal ≡ booked_all s.journal cs rs
run_booked s [] rs = refl
run_booked s (c ∷ cs) [] = refl
run_booked s (c ∷ cs) (r ∷ rs) = run_booked (after s c r) cs rs ∙ ap (λ (es : List Entry). booked_all es cs rs) (after_booked s c r)
