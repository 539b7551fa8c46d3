-- The bodies of a file, section after section.
use Rattle.std.specs.Prelude.{ℕ, ◌+◌, List, Result}
use Rattle.text.specs.Chain.{◌then◌}
use Rattle.forms.specs.declared.section.Section.TheVariants.{Head, Instruments, Contracts, Accounts, Openings, Limits, Risks, Ranges, Credits, Calls}
use Rattle.file.specs.Contents.{counts_of}
use Rattle.file.specs.Says.{line_says}
use Rattle.file.specs.View.{View, no_view}
use Rattle.file.specs.Walk.{line_at, body_of, title_at, at_end}
use Rattle.file.specs.declared.counts.Counts.{Counts}
use Rattle.file.specs.declared.fault.Fault.{Fault}

-- the line at which a section's rows begin
abbrev pub contracts_at : Counts → ℕ
contracts_at n = 13 + n.instruments

abbrev pub accounts_at : Counts → ℕ
accounts_at n = contracts_at n + n.contracts

abbrev pub openings_at : Counts → ℕ
openings_at n = accounts_at n + n.accounts

abbrev pub limits_at : Counts → ℕ
limits_at n = openings_at n + n.openings

abbrev pub risks_at : Counts → ℕ
risks_at n = limits_at n + n.limits

abbrev pub ranges_at : Counts → ℕ
ranges_at n = risks_at n + n.risks

abbrev pub credits_at : Counts → ℕ
credits_at n = ranges_at n + n.ranges

abbrev pub calls_at : Counts → ℕ
calls_at n = credits_at n + n.credits

abbrev pub end_at : Counts → ℕ
end_at n = calls_at n + n.calls

abbrev pub contract_parts : Counts → List ℕ → Result (View × List ℕ) Fault
contract_parts n bs =
    line_at (line_says Head no_view) 12 bs then λ h.
    body_of (line_says Instruments) n.instruments 13 h.0 h.1 then λ i.
    body_of (line_says Contracts) n.contracts (contracts_at n) i.0 i.1

abbrev pub opening_parts : Counts → View → List ℕ → Result (View × List ℕ) Fault
opening_parts n v bs =
    body_of (line_says Accounts) n.accounts (accounts_at n) v bs then λ a.
    body_of (line_says Openings) n.openings (openings_at n) a.0 a.1 then λ o.
    body_of (line_says Limits) n.limits (limits_at n) o.0 o.1

abbrev pub tariff_parts : Counts → View → List ℕ → Result (View × List ℕ) Fault
tariff_parts n v bs =
    body_of (line_says Risks) n.risks (risks_at n) v bs then λ r.
    body_of (line_says Ranges) n.ranges (ranges_at n) r.0 r.1 then λ k.
    body_of (line_says Credits) n.credits (credits_at n) k.0 k.1

abbrev pub last_parts : Counts → View → List ℕ → Result View Fault
last_parts n v bs =
    body_of (line_says Calls) n.calls (calls_at n) v bs then λ e.
    at_end (end_at n) e.0 e.1

abbrev pub bodies_of : Counts → List ℕ → Result View Fault
bodies_of n bs =
    contract_parts n bs then λ c.
    opening_parts n c.0 c.1 then λ o.
    tariff_parts n o.0 o.1 then λ t.
    last_parts n t.0 t.1

abbrev pub parts_of : List ℕ → Result View Fault
parts_of bs =
    title_at 1 bs then λ rest.
    counts_of rest then λ n.
    bodies_of n.0 n.1
