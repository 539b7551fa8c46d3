-- What an answer tells that may also fail for want of memory.
use Rattle.std.specs.Prelude.{◌≡◌, ℕ, Ok, Err, Result}
use Rattle.terms.specs.declared.failure.Failure.{Failure}
use Rattle.terms.specs.declared.failure.Failure.TheVariants as failures
use Rattle.file.specs.declared.fault.Fault.{Fault}
use Rattle.file.specs.declared.fault.Unread.{Unread}
use Rattle.file.specs.declared.fault.Unread.TheVariants.{Refused, NoMemory}

-- the answer, seen as the defined value is, is the defined one, unless memory ran out
abbrev pub Tells : {X Y : Type 0} → (X → Y) → Result X Unread → Result Y Fault → Type 0
Tells seen (Ok x) s = Ok (seen x) ≡ s
Tells seen (Err (Refused q)) s = Err q ≡ s
Tells seen (Err NoMemory) s = Unit {0}

abbrev pub told_at : ℕ → Failure → Unread
told_at n (failures.Refused e) = Refused (record { refusal = e; line = n })
told_at n failures.NoMemory = NoMemory
