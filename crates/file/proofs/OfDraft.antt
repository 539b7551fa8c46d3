-- An empty draft, and a draft that is complete.
use Rattle.std.proofs.Common.{◌≡◌, ℕ, List, [], ◌∷◌, map, vec_items, refl, ap, ◌∙◌, ap₂, arith}
use Rattle.calendar.specs.declared.load.Load.{Load}
use Rattle.contracts.specs.Rows.{instr}
use Rattle.contracts.specs.Table.{Table}
use Rattle.contracts.specs.declared.contract.Instrument.{Instrument}
use Rattle.tariff.specs.Said.{Said}
use Rattle.tariff.specs.Views.{draft_of}
use Rattle.tariff.specs.declared.draft.Draft.{Draft}
use Rattle.file.specs.View.{View, with_tariff}

none_mapped : {X Y : Type 0} (f : X → Y) (xs : List X) → map f xs ≡ [] → xs ≡ []
none_mapped f [] e = refl
none_mapped f (x ∷ xs) e = absurd (let z : ◌≡◌ {A = ℕ} 0 1 = cc in omega arith)

-- a draft without instruments
pub no_instruments : (d : Draft Load) (t : Table) (s : Said) → draft_of d ≡ (t, s) → t.instruments ≡ [] → vec_items d.contracts.instruments.rows ≡ []
no_instruments d t s e h = none_mapped instr (vec_items d.contracts.instruments.rows) (ap (λ (p : Table × Said). p.0.instruments) e ∙ h)

-- a view with the tariff of a draft
pub tariff_alike : (v : View) (is js : List (Instrument Load)) (p q : Table × Said) → is ≡ js → p ≡ q → with_tariff v is p ≡ with_tariff v js q
tariff_alike v is js p q a b = ap₂ (λ (xs : List (Instrument Load)) (x : Table × Said). with_tariff v xs x) a b
