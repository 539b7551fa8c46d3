-- Positions gathered one after another.
use Rattle.std.proofs.Common.{◌≡◌, ℕ, ◌^◌, zero-add, ◌<◌, ◌≤◌, List, [], ◌∷◌, map, length, ℤ, pos, nat_abs, IfOk, Ok, Err, Result, sym, refl, ap, ◌∙◌, subst, inl, inr, arith, lit≤}
use Rattle.std.specs.List.{AllByRecursion as All, range_with_len, zip}
use Rattle.std.proofs.lemmas.List.FromFn.{length-range_with_len, get_or-range_with_len}
use Rattle.std.proofs.lemmas.List.{get_or_past, get_or-map, length-map}
use Rattle.std.proofs.lemmas.Bool.{cases_lt}
use Rattle.contracts.specs.Lines as lined
use Rattle.contracts.specs.Lines.{day, rest, own, lines}
use Rattle.contracts.specs.Table.{Table, size}
use Rattle.contracts.specs.Views.{table_of}
use Rattle.contracts.specs.declared.table.ContractTable.{ContractTable}
use Rattle.positions.specs.Net.{placed, net_all}
use Rattle.positions.specs.Netted.{owned, netted, relations}
use Rattle.positions.specs.Results.{netted_by, OwnAre}
use Rattle.positions.proofs.Count.{all_listed}
use Rattle.positions.proofs.Driving.{agree}
use Rattle.positions.proofs.Good.{good}
use Rattle.positions.proofs.Kept.{all_whole}
use Rattle.positions.proofs.Taking.{OfTable}

-- ---- the contracts' own lines
pub owned_all : (t : Table) (q : ℕ → ℤ) (n : ℕ) (xs : List ℤ) → n ≡ size t → xs ≡ map (owned t q) (range_with_len 0 n) → ((i : ℕ) → i < length xs → nat_abs (placed xs i) ≤ 2 ^ 38) → OwnAre t q xs
owned_all t q n xs e is small =
    let long = length-map (range_with_len 0 n) (owned t q) in
    let range = length-range_with_len 0 n in
    let all = ap length is in
    let at : (i : ℕ) → i < n → placed xs i ≡ owned t q i = λ i l. ap (λ (k : List ℤ). placed k i) is ∙ get_or-map (owned t q) (range_with_len 0 n) i 0 (pos 0) (omega arith) ∙ ap (owned t q) (get_or-range_with_len 0 n i 0 l ∙ zero-add i) in
    record {
      long = omega arith;
      each = λ i l. at i (omega arith);
      small = λ i. elim (cases_lt i (length xs)) [
        | inl a ↦ small i a
        | inr a ↦ subst (λ y. nat_abs y ≤ 2 ^ 38) (sym (get_or_past xs i (pos 0) a)) (lit≤ tt)
      ];
    }

-- ---- all lines
pub zip_on : {X Y Z : Type 0} (g : X → Y) (f : X → Y → Z) (xs : List X) → map (λ (p : X × Y). f p.0 p.1) (zip xs (map g xs)) ≡ map (λ x. f x (g x)) xs
zip_on g f [] = refl
zip_on {Z = Z} g f (x ∷ xs) = ap (λ (r : List Z). f x (g x) ∷ r) (zip_on g f xs)

map_all : (P : lined.Line → Type 0) (f g : lined.Line → ℤ) (ls : List lined.Line) → All P ls → ((l : lined.Line) → P l → f l ≡ g l) → map f ls ≡ map g ls
map_all P f g [] a h = refl
map_all P f g (l ∷ ls) a h = ap (λ x. x ∷ map f ls) (h l a.0) ∙ ap (λ (r : List ℤ). g l ∷ r) (map_all P f g ls a.1 h)

-- with the own positions netted, every line's position is the netted one
pub netted_all : {P : Type 0} (s : ContractTable P) (q : ℕ → ℤ) (before after : List ℤ) → OwnAre (table_of s) q before → ((i : ℕ) → placed after i ≡ net_all (relations (table_of s)) (placed before) i) → map (netted_by (table_of s) q after) (lines (table_of s)) ≡ map (netted (table_of s) q) (lines (table_of s))
netted_all s q before after own-are done =
    let t = table_of s in
    let g = good s in
    map_all (OfTable t g) (netted_by t q after) (netted t q) (lines t) (all_listed t g) at
  where
    at : (l : lined.Line) → OfTable (table_of s) (good s) l → netted_by (table_of s) q after l ≡ netted (table_of s) q l
    at (day u e) h = refl
    at (rest u m) h = refl
    at (own i) h = done i ∙ agree (size (table_of s)) _ (relations (table_of s)) (all_whole (table_of s) (good s) q 0 0) (placed before) (owned (table_of s) q) own-are.each i h.0

-- what is made with two facts is made with what they give together
pub made_both : {X E : Type 0} (r : Result X E) (P Q R : X → Type 0) → IfOk r P → IfOk r Q → ((x : X) → P x → Q x → R x) → IfOk r R
made_both (Ok x) P Q R p q f = f x p q
made_both (Err e) P Q R p q f = tt
