use Rattle.std.proofs.Common.{unwrap_or, ap, ◌∙◌, ap₂}
use Rattle.days.specs.declared.day.Day.{Day}
use Rattle.contracts.specs.declared.kind.Kind.{Kind}
use Rattle.contracts.specs.declared.kind.Kind.TheVariants as kind
use Rattle.opening.proofs.Listed.{same_day}
use Rattle.opening.proofs.starting.listing_of.Goals as goal

pub returns : goal.returns
returns g c =
    let x = c.args.contract.terms in
    ap₂ (λ (k : Kind) (d : Day). record { number = x.number; kind = k; registration = d }) (c.unwrap_or.ensures ∙ ap (λ o. unwrap_or o kind.Option) c.kind_of-kind.ensures) (same_day x.registration)
