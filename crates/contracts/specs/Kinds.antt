-- The types of instrument and their letters.
use Rattle.std.specs.Prelude.{ℕ, Bool, true, false, cond, Ok, Err, Result, ◌==◌}
use Rattle.terms.specs.declared.refusal.Refusal.{Refusal}
use Rattle.terms.specs.declared.refusal.Refusal.TheVariants.{Form}
use Rattle.contracts.specs.declared.kind.Kind.{Kind}
use Rattle.contracts.specs.declared.kind.Kind.TheVariants.{Future, Forward, Swap, Option}

-- F, W, S, O
abbrev pub kind_letter : Kind → ℕ
kind_letter Future = 70
kind_letter Forward = 87
kind_letter Swap = 83
kind_letter Option = 79

abbrev pub kind_of : ℕ → Result Kind Refusal
kind_of b = cond (b == 70) (Ok Future) (cond (b == 87) (Ok Forward) (cond (b == 83) (Ok Swap) (cond (b == 79) (Ok Option) (Err Form))))

abbrev pub is_option : Kind → Bool
is_option Future = false
is_option Forward = false
is_option Swap = false
is_option Option = true
