-- Which answer comes to a call, and what the book is after it.
use Rattle.std.specs.Prelude.{◌≡◌, ℕ, ◌+◌, ◌-◌, Bool, false, cond, not, ◌&&◌, ◌||◌, List, [], ◌∷◌, ◌++◌, length, ℤ, pos, Some, None, Ok, Err, Option, Result, ◌==◌, nat_le, nat_lt, slice_index_or, slice_set, unsigned_abs}
use Rattle.terms.specs.Ranges.{holds_in}
use Rattle.terms.specs.declared.bounds.Bounds.{Bounds}
use Rattle.terms.specs.declared.bounds.Bounds.TheVariants.{Price, Position, Account, Contract, Entry, ConcentrationLimit}
use Rattle.terms.specs.declared.refusal.Refusal.{Refusal}
use Rattle.terms.specs.declared.refusal.Refusal.TheVariants.{OutOfRange, NotInBook, RegistrationOver, JournalFull, NoStandingEntry, OwnAccount, CellOutOfRange, OverLimit}
use Rattle.books.specs.declared.entry.Call.{Call}
use Rattle.books.specs.declared.entry.Call.TheVariants.{Enter, Cancel, Transfer, LimitMember, LimitAgents}
use Rattle.books.specs.declared.entry.Cell.{Cell}
use Rattle.books.specs.declared.entry.Entry as entries
use Rattle.books.specs.declared.entry.Listing.{Listing}
use Rattle.books.specs.declared.entry.Trade.{Trade}
use Rattle.books.specs.declared.entry.Scope.TheVariants.{Member, Agents}
use Rattle.books.specs.declared.entry.Whose.{Whose}
use Rattle.books.specs.Cells.{trades_within}
use Rattle.books.specs.Journal.{blank, room, entered, cancelled, moved}
use Rattle.books.specs.Limits.{held, any_exceeds, limited}
use Rattle.books.specs.State.{Layer, State, Holding, is_account, is_listing, listing_place, cell_of}

-- ---- after a call
abbrev pub with_journal : State → List entries.Entry → State
with_journal s es = record { date = s.date; accounts = s.accounts; listings = s.listings; opening = s.opening; journal = es; layers = s.layers }

abbrev pub with_layers : State → List Layer → State
with_layers s ys = record { date = s.date; accounts = s.accounts; listings = s.listings; opening = s.opening; journal = s.journal; layers = ys }

-- the entry of a number, from 1
abbrev pub entry_at : State → ℕ → entries.Entry
entry_at s k = slice_index_or s.journal (k - 1) blank

-- the book after a call that is taken
abbrev pub taken : State → Call → State
taken s (Enter t) = with_journal s (s.journal ++ entered t ∷ [])
taken s (Cancel k) = with_journal s (slice_set s.journal (k - 1) (cancelled (entry_at s k)))
taken s (Transfer k a) = with_journal s (slice_set s.journal (k - 1) (moved a (entry_at s k)))
taken s (LimitMember c most) = with_layers s (limited Member (listing_place c s.listings) most s.layers)
taken s (LimitAgents c most) = with_layers s (limited Agents (listing_place c s.listings) most s.layers)

-- a refused call leaves the book as it was
abbrev pub after : State → Call → Result ℕ Refusal → State
after s call (Ok n) = taken s call
after s call (Err e) = s

-- ---- the answer
-- an account and a contract whose cell a call would change
pub record Place : Type 0 where
  pub account : ℕ
  pub contract : ℕ

abbrev pub changed : State → Call → List Place
changed s (Enter t) = record { account = t.account; contract = t.contract } ∷ []
changed s (Cancel k) = record { account = (entry_at s k).trade.account; contract = (entry_at s k).trade.contract } ∷ []
changed s (Transfer k a) = record { account = (entry_at s k).trade.account; contract = (entry_at s k).trade.contract } ∷ record { account = a; contract = (entry_at s k).trade.contract } ∷ []
changed s (LimitMember c most) = []
changed s (LimitAgents c most) = []

-- a cell out of its range
abbrev pub is_unfit : Cell → Bool
is_unfit x = not (trades_within x.opening x.traded)

abbrev pub any_unfit : State → List Place → Bool
any_unfit s [] = false
any_unfit s (p ∷ ps) = is_unfit (cell_of s p.account p.contract) || any_unfit s ps

abbrev pub any_over : State → State → List Place → Bool
any_over s s' [] = false
any_over s s' (p ∷ ps) = any_exceeds s.layers s s' p.account p.contract || any_over s s' ps

abbrev pub within : Bounds → ℕ → Bool
within b n = holds_in b (pos n)

-- ---- the conditions, by refusal
-- a quantity that can be traded is not 0
abbrev pub is_quantity : ℤ → Bool
is_quantity q = not (unsigned_abs q == 0) && holds_in Position q

abbrev pub trade_within : Trade → Bool
trade_within t = within Account t.account && (within Contract t.contract && (is_quantity t.quantity && holds_in Price t.price))

abbrev pub out_of_range : Call → Bool
out_of_range (Enter t) = not (trade_within t)
out_of_range (Cancel k) = not (within Entry k)
out_of_range (Transfer k a) = not (within Entry k && within Account a)
out_of_range (LimitMember c most) = not (within Contract c && within ConcentrationLimit most)
out_of_range (LimitAgents c most) = not (within Contract c && within ConcentrationLimit most)

abbrev pub not_in_book : State → Call → Bool
not_in_book s (Enter t) = not (is_account t.account s.accounts && is_listing t.contract s.listings)
not_in_book s (Cancel k) = false
not_in_book s (Transfer k a) = not (is_account a s.accounts)
not_in_book s (LimitMember c most) = not (is_listing c s.listings)
not_in_book s (LimitAgents c most) = not (is_listing c s.listings)

-- the last registration day of a contract lies before the date
abbrev pub is_over : ℕ → ℕ → List Listing → Bool
is_over d c [] = false
is_over d c (x ∷ xs) = cond (x.number == c) (nat_lt x.registration.number d) (is_over d c xs)

abbrev pub registration_over : State → Call → Bool
registration_over s (Enter t) = is_over s.date t.contract s.listings
registration_over s (Cancel k) = false
registration_over s (Transfer k a) = false
registration_over s (LimitMember c most) = false
registration_over s (LimitAgents c most) = false

abbrev pub journal_full : State → Call → Bool
journal_full s (Enter t) = nat_le room (length s.journal)
journal_full s (Cancel k) = false
journal_full s (Transfer k a) = false
journal_full s (LimitMember c most) = false
journal_full s (LimitAgents c most) = false

-- the entry is unused or cancelled
abbrev pub no_standing_entry : State → Call → Bool
no_standing_entry s (Enter t) = false
no_standing_entry s (Cancel k) = not (entry_at s k).stands
no_standing_entry s (Transfer k a) = not (entry_at s k).stands
no_standing_entry s (LimitMember c most) = false
no_standing_entry s (LimitAgents c most) = false

abbrev pub own_account : State → Call → Bool
own_account s (Enter t) = false
own_account s (Cancel k) = false
own_account s (Transfer k a) = (entry_at s k).trade.account == a
own_account s (LimitMember c most) = false
own_account s (LimitAgents c most) = false

-- the number of the call's entry, from 1; 0 for a limit
abbrev pub entry_of : State → Call → ℕ
entry_of s (Enter t) = length s.journal + 1
entry_of s (Cancel k) = k
entry_of s (Transfer k a) = k
entry_of s (LimitMember c most) = 0
entry_of s (LimitAgents c most) = 0

-- the lowest refusal whose condition holds, or the entry's number
abbrev pub answer : State → Call → Result ℕ Refusal
answer s call =
    cond (out_of_range call) (Err OutOfRange)
    (cond (not_in_book s call) (Err NotInBook)
    (cond (registration_over s call) (Err RegistrationOver)
    (cond (journal_full s call) (Err JournalFull)
    (cond (no_standing_entry s call) (Err NoStandingEntry)
    (cond (own_account s call) (Err OwnAccount)
    (cond (any_unfit (taken s call) (changed s call)) (Err CellOutOfRange)
    (cond (any_over s (taken s call) (changed s call)) (Err OverLimit)
    (Ok (entry_of s call)))))))))

-- what a reader of a cell is answered
abbrev pub shown : Holding → ℕ → ℕ → Result Cell Refusal
shown h a c = cond (is_account a h.accounts && is_listing c h.listings) (Ok (h.cell a c)) (Err NotInBook)

-- the entry of a number, if there is one
abbrev pub entry_shown : State → ℕ → Option entries.Entry
entry_shown s k = cond (nat_lt 0 k && nat_le k (length s.journal)) (Some (entry_at s k)) None

-- what a reader of a sum is answered
abbrev pub held_shown : State → Whose → ℕ → Result ℤ Refusal
held_shown s w c = cond (is_listing c s.listings) (Ok (held s w c)) (Err NotInBook)

-- ---- calls one after another
-- the answers that come
abbrev pub answers : State → List Call → List (Result ℕ Refusal)
answers s [] = []
answers s (call ∷ calls) = answer s call ∷ answers (after s call (answer s call)) calls

-- the book that calls and their answers leave
abbrev pub run : State → List Call → List (Result ℕ Refusal) → State
run s [] rs = s
run s (call ∷ calls) [] = s
run s (call ∷ calls) (r ∷ rs) = run (after s call r) calls rs

-- ---- what calls and answers alone tell
-- the journal after a call, of the journal before it
abbrev pub booked : List entries.Entry → Call → Result ℕ Refusal → List entries.Entry
booked es call (Err e) = es
booked es (Enter t) (Ok n) = es ++ entered t ∷ []
booked es (Cancel k) (Ok n) = slice_set es (k - 1) (cancelled (slice_index_or es (k - 1) blank))
booked es (Transfer k a) (Ok n) = slice_set es (k - 1) (moved a (slice_index_or es (k - 1) blank))
booked es (LimitMember c most) (Ok n) = es
booked es (LimitAgents c most) (Ok n) = es

abbrev pub booked_all : List entries.Entry → List Call → List (Result ℕ Refusal) → List entries.Entry
booked_all es [] rs = es
booked_all es (call ∷ calls) [] = es
booked_all es (call ∷ calls) (r ∷ rs) = booked_all (booked es call r) calls rs

-- calls change the journal and the limits alone
pub record OpenedAlike (s t : State) : Type 0 where
  pub date : t.date ≡ s.date
  pub accounts : t.accounts ≡ s.accounts
  pub listings : t.listings ≡ s.listings
  pub opening : t.opening ≡ s.opening
