use Rattle.std.proofs.Common.{◌≡◌, suc, false, ◌&&◌, ltb, leb, sym, subst, arith}
use Rattle.std.proofs.lemmas.Bool.{and_left, lt-leb}
use Rattle.calendar.proofs.Parts.{last_after}
use Rattle.contracts.specs.Lines.{any_below, gives_on, takes}
use Rattle.contracts.specs.Rows.{listed}
use Rattle.contracts.specs.Seen.{seen}
use Rattle.contracts.specs.Table.{covers, last_day}
use Rattle.contracts.specs.Views.{table_of}
use Rattle.contracts.proofs.Searches.{any_from, any_more, any_false}
use Rattle.contracts.proofs.table.ContractTable.gives.Goals as goal

pub loop-number-init : goal.loop-number-init
loop-number-init g c =
    let t = table_of c.args.self.now in
    let x = listed c.args.contract in
    let l = seen t.date c.args.line in
    any_false (gives_on t x l) x.first (λ d h. and_left (covers x d && ltb t.date d) (takes t l d) (and_left (covers x d) (ltb t.date d) (and_left (leb x.first d) (leb d (last_day x)) (lt-leb x.first d h))))

pub returns-then-gives_on : goal.returns-then-gives_on
returns-then-gives_on g c =
    let e = c.args.contract.ends in
    sym (any_from _ (suc (last_day (listed c.args.contract))) c.loop-number.number (omega arith) (sym c.if-gives_on.ensures))

pub loop-number-preserved : goal.loop-number-preserved
loop-number-preserved g c = any_more _ c.loop-number.number c.loop-number.invariant (sym c.if-gives_on.ensures)

pub returns : goal.returns
returns g c =
    let t = table_of c.args.self.now in
    let x = listed c.args.contract in
    let e = c.args.contract.ends in
    let f = last_after x.maturity x.first in
    let o = c.loop-number.auto.number-end (omega arith) in
    let same : c.loop-number.number ≡ suc (last_day x) = omega arith in
    sym (subst (λ n. any_below (gives_on t x (seen t.date c.args.line)) n ≡ false) same c.loop-number.invariant)
