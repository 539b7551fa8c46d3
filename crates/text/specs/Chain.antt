-- Steps that may refuse, one after another.
use Rattle.std.specs.Prelude.{Ok, Err, Result}

infixr 10 ◌then◌
-- the next step, on the value of the one before, or that one's refusal
abbrev pub ◌then◌ : {E X Y : Type 0} → Result X E → (X → Result Y E) → Result Y E
Ok x then k = k x
Err e then k = Err e
