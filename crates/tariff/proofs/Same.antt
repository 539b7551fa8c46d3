-- Lines of the code are equal where what they stand for is the same.
use Rattle.std.proofs.Common.{◌≡◌, ℕ, ◌+◌, Bool, ◌&&◌, eqb, refl, ap, sym, rules, arith}
use Rattle.std.proofs.lemmas.Bool.{eq-eqb, ne_eqb}
use Rattle.days.specs.Months.{month_of}
use Rattle.contracts.specs.Seen.{seen}
use Rattle.contracts.specs.declared.line.Line.{Line}
use Rattle.contracts.specs.declared.line.Line.TheVariants.{Day, Rest, Own}
use Rattle.contracts.specs.declared.line.RestOf.TheVariants.{ThisMonth, NextMonth}
use Rattle.contracts.specs.contracts.line.LinePartialEq.TheImpl.{ghosts}
use Rattle.tariff.specs.Rules.{same_line}

pub same_seen : (date : ℕ) (l m : Line) → (ghosts).eq l m ≡ same_line (seen date l) (seen date m)
same_seen date (Day u d) (Day v e) = search rules
same_seen date (Day u d) (Rest v w) = refl
same_seen date (Day u d) (Own j) = refl
same_seen date (Rest u w) (Day v e) = refl
same_seen date (Rest u ThisMonth) (Rest v ThisMonth) = ap (λ (b : Bool). eqb u v && b) (sym (eq-eqb (month_of date) (month_of date) refl))
same_seen date (Rest u ThisMonth) (Rest v NextMonth) = ap (λ (b : Bool). eqb u v && b) (sym (ne_eqb (month_of date) (month_of date + 1) (λ e. omega arith)))
same_seen date (Rest u NextMonth) (Rest v ThisMonth) = ap (λ (b : Bool). eqb u v && b) (sym (ne_eqb (month_of date + 1) (month_of date) (λ e. omega arith)))
same_seen date (Rest u NextMonth) (Rest v NextMonth) = ap (λ (b : Bool). eqb u v && b) (sym (eq-eqb (month_of date + 1) (month_of date + 1) refl))
same_seen date (Rest u w) (Own j) = refl
same_seen date (Own i) (Day v e) = refl
same_seen date (Own i) (Rest v w) = refl
same_seen date (Own i) (Own j) = search rules
