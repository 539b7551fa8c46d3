-- What the fields at the end of a line say, where they vary in number.
use Rattle.std.specs.Prelude.{◌-◌, Bool, false, cond, ◌||◌, List, [], ◌∷◌, ◌++◌, length, replicate, ℤ, pos, Ok, Err, Result, ◌==◌, nat_lt, unsigned_abs}
use Rattle.terms.specs.declared.amounts.Gains.{Gains}
use Rattle.terms.specs.declared.refusal.Refusal.{Refusal}
use Rattle.terms.specs.declared.refusal.Refusal.TheVariants.{Form}
use Rattle.tariff.specs.Rows.{steps_in}
use Rattle.tariff.specs.declared.rows.Step.{Step}
use Rattle.tariff.specs.declared.rows.Steps.{Steps}
use Rattle.text.specs.Chain.{◌then◌}
use Rattle.text.specs.Cursor.{number_in}
use Rattle.text.specs.Fields.{Piece}
use Rattle.forms.specs.Narrow.{in8}

-- ---- gains
-- fields that are all numbers
abbrev pub numbers_in : List Piece → Result (List ℤ) Refusal
numbers_in [] = Ok []
numbers_in (p ∷ ps) = number_in p then λ z. numbers_in ps then λ zs. Ok (z ∷ zs)

abbrev pub is_zero : ℤ → Bool
is_zero z = unsigned_abs z == 0

-- is the last of them 0?
abbrev pub ends_in_zero : List ℤ → Bool
ends_in_zero [] = false
ends_in_zero (z ∷ []) = is_zero z
ends_in_zero (z ∷ y ∷ zs) = ends_in_zero (y ∷ zs)

-- sixteen gains: those given, and zeros after them
abbrev pub filled_up : List ℤ → Gains
filled_up zs = record { each = zs ++ replicate (16 - length zs) (pos 0) }

-- at most sixteen numbers, the last of which is not 0
abbrev pub gains_form : List Piece → Result Gains Refusal
gains_form fields =
    numbers_in fields then λ zs.
    cond (nat_lt 16 (length zs) || ends_in_zero zs) (Err Form) (Ok (filled_up zs))

-- ---- limits
-- a limit and its percentage
abbrev pub step_in : Piece → Piece → Result Step Refusal
step_in l p =
    number_in l then λ limit.
    number_in p then λ percent.
    Ok (record { limit = limit; percent = in8 percent })

-- limits, each with its percentage behind it
abbrev pub pairs_in : List Piece → Result (List Step) Refusal
pairs_in [] = Ok []
pairs_in (l ∷ []) = Err Form
pairs_in (l ∷ p ∷ ps) = step_in l p then λ s. pairs_in ps then λ ss. Ok (s ∷ ss)

-- at most three of them
abbrev pub steps_form : List Piece → Result (List Step) Refusal
steps_form fields =
    pairs_in fields then λ steps.
    cond (nat_lt 3 (length steps)) (Err Form) (Ok steps)

-- the limits in use
abbrev pub steps_seen : Result Steps Refusal → Result (List Step) Refusal
steps_seen (Ok s) = Ok (steps_in s)
steps_seen (Err e) = Err e
