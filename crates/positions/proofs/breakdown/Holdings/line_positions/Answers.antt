use Rattle.std.proofs.Common.{◌≡◌, map, vec_items, List, Ok, ℤ, sym, ap, ◌∙◌, rules}
use Rattle.std.specs.List.{zip}
use Rattle.std.proofs.lemmas.Iterator.{YieldsList-from_slice, YieldsList-from_map, YieldsList-from_zip, items_from_collect}
use Rattle.std.proofs.lemmas.Simd.{map-map}
use Rattle.contracts.specs.Seen.{seen}
use Rattle.std.specs.declared.alloc.AllocError.{AllocError}
use Rattle.contracts.specs.Views.{table_of}
use Rattle.contracts.specs.declared.line.Line.{Line}
use Rattle.positions.specs.Net.{placed}
use Rattle.positions.specs.Netted.{position}
use Rattle.positions.specs.Results.{netted_at, netted_by}
use Rattle.positions.proofs.Gathering.{zip_on}
use Rattle.positions.proofs.breakdown.Holdings.line_positions.Goals as goal

pub returns-clause-before : goal.returns-clause-before
returns-clause-before g c =
    let t = table_of c.args.self.now.table.now in
    let f = position t (placed c.args.self.now.quantities.now) in
    let all : vec_items c.in_ok-before.before ≡ map (λ (l : Line). f (seen t.date l)) c.args.lines.now = items_from_collect {E = AllocError} (Ok c.in_ok-before.before) c.in_ok-before.ensures.ran (YieldsList-from_map _ _ (YieldsList-from_slice c.args.lines.now cc) c.map.ensures.closure (λ x r q k. search rules)) in
    all ∙ sym (map-map f (seen t.date) c.args.lines.now)

pub returns-clause-netted : goal.returns-clause-netted
returns-clause-netted g c =
    let t = table_of c.args.self.now.table.now in
    let ls = c.args.lines.now in
    let own = vec_items c.args.own.now.positions in
    let f = position t (placed c.args.self.now.quantities.now) in
    let h = λ (p : Line × ℤ). netted_at p.1 own (seen t.date p.0) in
    let both : vec_items c.in_ok-netted.netted ≡ map h (zip ls (vec_items c.in_ok-before.before)) = items_from_collect {E = AllocError} (Ok c.in_ok-netted.netted) c.in_ok-netted.ensures.ran (YieldsList-from_map _ h (YieldsList-from_zip (YieldsList-from_slice ls cc) (YieldsList-from_slice (vec_items c.in_ok-before.before) cc)) c.map-2.ensures.closure (λ x r q k. search rules)) in
    let before : vec_items c.in_ok-before.before ≡ map (λ (l : Line). f (seen t.date l)) c.args.lines.now = items_from_collect {E = AllocError} (Ok c.in_ok-before.before) c.in_ok-before.ensures.ran (YieldsList-from_map _ _ (YieldsList-from_slice c.args.lines.now cc) c.map.ensures.closure (λ x r q k. search rules)) in
    both
    ∙ ap (λ (xs : List ℤ). map h (zip ls xs)) before
    ∙ zip_on (λ (l : Line). f (seen t.date l)) (λ (l : Line) (x : ℤ). netted_at x own (seen t.date l)) ls
    ∙ sym (map-map (netted_by t (placed c.args.self.now.quantities.now) own) (seen t.date) ls)
