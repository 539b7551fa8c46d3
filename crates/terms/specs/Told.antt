-- What an answer tells that may also fail for want of memory.
use Rattle.std.specs.Prelude.{◌≡◌, Ok, Err, Result}
use Rattle.terms.specs.declared.refusal.Refusal.{Refusal}
use Rattle.terms.specs.declared.failure.Failure.{Failure}
use Rattle.terms.specs.declared.failure.Failure.TheVariants.{Refused, NoMemory}

-- the answer, seen as the defined value is, is the defined one, unless memory ran out
abbrev pub Told : {X Y : Type 0} → (X → Y) → Result X Failure → Result Y Refusal → Type 0
Told seen (Ok x) s = Ok (seen x) ≡ s
Told seen (Err (Refused e)) s = Err e ≡ s
Told seen (Err NoMemory) s = Unit {0}
