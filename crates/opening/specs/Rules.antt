-- What a row that is added is refused for, by number.
use Rattle.std.specs.Prelude.{◌≡◌, ℕ, ◌<◌, Bool, false, cond, not, ◌&&◌, ◌||◌, List, length, take, pos, is_some, Some, None, Ok, Err, Option, Result, nat_le, slice_index_or}
use Rattle.terms.specs.Ranges.{holds_in}
use Rattle.terms.specs.declared.bounds.Bounds.TheVariants as range
use Rattle.terms.specs.declared.refusal.Refusal.{Refusal}
use Rattle.terms.specs.declared.refusal.Refusal.TheVariants.{OutOfRange, UnknownReference, RepeatedKey, TooLong}
use Rattle.books.specs.Cells.{opens_within}
use Rattle.books.specs.State.{is_account, is_listing, kind_of}
use Rattle.books.specs.declared.entry.Account.{Account}
use Rattle.books.specs.declared.entry.Listing.{Listing}
use Rattle.opening.specs.Rows.{is_opened, is_limited}
use Rattle.opening.specs.declared.rows.Limit.{Limit}
use Rattle.opening.specs.declared.rows.Opened.{Opened}

-- the lowest number whose condition holds: 2 out of range, 3 not listed, 4 a key again, 7 no room
abbrev pub lowest : Bool → Bool → Bool → Bool → Option Refusal
lowest range unknown again full =
    cond range (Some OutOfRange)
    (cond unknown (Some UnknownReference)
    (cond again (Some RepeatedKey)
    (cond full (Some TooLong) None)))

-- ---- an account
abbrev pub account_within : Account → Bool
account_within x = holds_in range.Account (pos x.number) && holds_in range.Agent (pos x.agent)

abbrev pub account_refusal : List Account → Account → Option Refusal
account_refusal xs x = lowest (not (account_within x)) false (is_account x.number xs) (nat_le 32 (length xs))

-- ---- an opening position
abbrev pub row_within : Opened → Bool
row_within r = (holds_in range.Account (pos r.account) && holds_in range.Contract (pos r.contract)) && (holds_in range.Position r.amount.quantity && holds_in range.OpeningValue r.amount.value)

-- where the contract is listed, the amount keeps to its type
abbrev pub suits_type : List Listing → Opened → Bool
suits_type ls r = not (is_listing r.contract ls) || opens_within (kind_of r.contract ls) r.amount

abbrev pub is_known : List Account → List Listing → Opened → Bool
is_known xs ls r = is_account r.account xs && is_listing r.contract ls

abbrev pub opening_refusal : List Account → List Listing → List Opened → Opened → Option Refusal
opening_refusal xs ls rs r = lowest (not (row_within r && suits_type ls r)) (not (is_known xs ls r)) (is_opened rs r.account r.contract) (nat_le 4096 (length rs))

-- the same, whatever the room
abbrev pub row_refusal : List Account → List Listing → List Opened → Opened → Option Refusal
row_refusal xs ls rs r = lowest (not (row_within r && suits_type ls r)) (not (is_known xs ls r)) (is_opened rs r.account r.contract) false

-- the place of a row that may be added
abbrev pub place_by : ℕ → Option Refusal → Result ℕ Refusal
place_by place None = Ok place
place_by place (Some e) = Err e

-- ---- limits
abbrev pub limit_within : Limit → Bool
limit_within y = holds_in range.Contract (pos y.contract) && (holds_in range.ConcentrationLimit (pos y.member) && holds_in range.ConcentrationLimit (pos y.agents))

abbrev pub limit_refusal : List Listing → List Limit → Limit → Option Refusal
limit_refusal ls ys y = lowest (not (limit_within y)) (not (is_listing y.contract ls)) (is_limited y.contract ys) (nat_le 128 (length ys))

-- ---- what every opening keeps: each row meets no refusal beside the rows before it
abbrev pub Kept : {X : Type 0} → (List X → X → Option Refusal) → List X → Type 0
Kept {X} refusal xs = (k : ℕ) (d : X) → k < length xs → is_some (refusal (take k xs) (slice_index_or xs k d)) ≡ false
