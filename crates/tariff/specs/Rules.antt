-- The rules of a risk tariff: what a row that is added is refused for, by number.
use Rattle.std.specs.Prelude.{◌≡◌, ℕ, suc, ◌+◌, ◌-◌, ◌<◌, Bool, true, false, cond, not, ◌&&◌, ◌||◌, List, [], ◌∷◌, map, length, take, ℤ, is_some, Some, None, Option, ◌==◌, nat_le, slice_index_or}
use Rattle.std.specs.List.{find, list_any, list_all}
use Rattle.std.specs.Option.{option_map}
use Rattle.terms.specs.Ranges.{holds_in}
use Rattle.terms.specs.declared.bounds.Bounds.TheVariants.{Price}
use Rattle.terms.specs.declared.refusal.Refusal.{Refusal}
use Rattle.terms.specs.declared.refusal.Refusal.TheVariants.{OutOfRange, UnknownReference, RepeatedKey, TooLong}
use Rattle.days.specs.Months.{month_of}
use Rattle.contracts.specs.Lines.{Line, day, rest, own, lines}
use Rattle.contracts.specs.Rules.{instrument_refusal, contract_refusal}
use Rattle.contracts.specs.Table.{Listed, Table, size}
use Rattle.tariff.specs.Ranges.{prices_hold, name_holds, risk_holds, range_holds, credit_holds}
use Rattle.tariff.specs.Said.{Rated, Ranged, Said}
use Rattle.tariff.specs.declared.rows.Credit.{Credit}
use Rattle.tariff.specs.declared.rows.LineName.{LineName}
use Rattle.tariff.specs.declared.rows.LineName.TheVariants.{Day, Rest, Own}
use Rattle.tariff.specs.declared.rows.Prices.{Prices}
use Rattle.tariff.specs.declared.rows.Risk.{Risk}

-- ---- an instrument with its spot price, a contract with its prices
-- 2 a price out of range; else what the contract table refuses it for
abbrev pub spot_refusal : Table → ℕ → ℤ → Option Refusal
spot_refusal t u spot = cond (not (holds_in Price spot)) (Some OutOfRange) (instrument_refusal t.instruments u)

abbrev pub prices_refusal : Table → Listed → Prices → Option Refusal
prices_refusal t c p = cond (not (prices_hold p)) (Some OutOfRange) (contract_refusal t c)

-- ---- a risk line
abbrev pub same_line : Line → Line → Bool
same_line (day u d) (day v e) = u == v && d == e
same_line (day u d) (rest v m) = false
same_line (day u d) (own j) = false
same_line (rest u m) (day v e) = false
same_line (rest u m) (rest v n) = u == v && m == n
same_line (rest u m) (own j) = false
same_line (own i) (day v e) = false
same_line (own i) (rest v n) = false
same_line (own i) (own j) = i == j

abbrev pub is_among : Line → List Line → Bool
is_among l ms = list_any (λ m. same_line m l) ms

-- the place of the contract with a number; past the end where there is none
abbrev pub place_of : ℕ → List Listed → ℕ
place_of n [] = 0
place_of n (c ∷ cs) = cond (c.number == n) 0 (suc (place_of n cs))

-- the line that a name means, if the table has it
abbrev pub named : Table → LineName → Line
named t (Day u k) = day u (t.date + k)
named t (Rest u m) = rest u (month_of t.date + m)
named t (Own n) = own (place_of n t.contracts)

-- that line, where it is one of the table's
abbrev pub line_in : Table → Line → Option Line
line_in t l = cond (is_among l (lines t)) (Some l) None

-- every line of the table goes by a name
abbrev pub LinesNamed : Table → Type 0
LinesNamed t = (l : Line) → is_among l (lines t) ≡ true → (n : LineName) × (name_holds n ≡ true) × (named t n ≡ l)

abbrev pub risk_in : List Rated → Line → Option Risk
risk_in rs l = option_map (λ r. r.risk) (find (λ r. same_line r.line l) rs)

abbrev pub has_risk : List Rated → Line → Bool
has_risk rs l = is_some (risk_in rs l)

-- 2 a number out of range, 3 no line of the table, 4 a line again, 7 256 are there
abbrev pub rated_refusal : Table → List Rated → Rated → Option Refusal
rated_refusal t rs r =
    cond (not (risk_holds r.risk)) (Some OutOfRange)
    (cond (not (is_among r.line (lines t))) (Some UnknownReference)
    (cond (has_risk rs r.line) (Some RepeatedKey)
    (cond (nat_le 256 (length rs)) (Some TooLong) None)))

-- the same by the line's name, whose numbers have ranges too
abbrev pub risk_refusal : Table → List Rated → LineName → Risk → Option Refusal
risk_refusal t rs n r = cond (not (name_holds n)) (Some OutOfRange) (rated_refusal t rs (record { line = named t n; risk = r }))

-- ---- a group's price range
abbrev pub range_in : List Ranged → ℕ → Option Ranged
range_in rs g = find (λ r. r.group == g) rs

-- 2 a number out of range or limits that do not rise, 4 a group again, 7 64 are there
abbrev pub range_refusal : List Ranged → Ranged → Option Refusal
range_refusal rs r =
    cond (not (range_holds r)) (Some OutOfRange)
    (cond (is_some (range_in rs r.group)) (Some RepeatedKey)
    (cond (nat_le 64 (length rs)) (Some TooLong) None))

-- ---- a credit between two groups
-- percentages do not rise: the next is at most the last one, or 100 where there is none
abbrev pub percent_left : List Credit → ℕ
percent_left cs = slice_index_or (map (λ c. c.percent) cs) (length cs - 1) 100

abbrev pub same_pair : Credit → Credit → Bool
same_pair c e = (e.first == c.first && e.second == c.second) || (e.first == c.second && e.second == c.first)

abbrev pub is_paired : Credit → List Credit → Bool
is_paired c es = list_any (same_pair c) es

-- 2 a number out of range or a percentage that rises, 4 a group with itself or a pair again, in either order, 7 64 are
-- there
abbrev pub credit_refusal : List Credit → Credit → Option Refusal
credit_refusal cs c =
    cond (not (credit_holds c && nat_le c.percent (percent_left cs))) (Some OutOfRange)
    (cond (c.first == c.second || is_paired c cs) (Some RepeatedKey)
    (cond (nat_le 64 (length cs)) (Some TooLong) None))

-- ---- what every tariff keeps
-- each row meets no refusal beside the rows before it
abbrev pub Kept : {X : Type 0} → (List X → X → Option Refusal) → List X → Type 0
Kept {X} refusal xs = (k : ℕ) (d : X) → k < length xs → is_some (refusal (take k xs) (slice_index_or xs k d)) ≡ false

-- while it is being said: a price for each instrument and each contract, in range, and rows that keep the rules
pub record Keeps (t : Table) (s : Said) : Type 0 where
  pub spots_each : length s.spots ≡ length t.instruments
  pub spots_hold : list_all (holds_in Price) s.spots ≡ true
  pub prices_each : length s.prices ≡ size t
  pub all_prices_hold : list_all prices_hold s.prices ≡ true
  pub risks_kept : Kept (rated_refusal t) s.risks
  pub ranges_kept : Kept range_refusal s.ranges
  pub credits_kept : Kept credit_refusal s.credits

-- does every line of the table have its risk line?
abbrev pub is_complete : Table → List Rated → Bool
is_complete t rs = list_all (has_risk rs) (lines t)

-- a tariff of the table
pub record Given (t : Table) (s : Said) : Type 0 where
  pub keeps : Keeps t s
  pub complete : is_complete t s.risks ≡ true
