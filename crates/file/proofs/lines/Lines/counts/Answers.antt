use Rattle.std.proofs.Common.{◌≡◌, arith}
use Rattle.std.proofs.lemmas.Result.{err_from_is_err_and}
use Rattle.file.proofs.Steps.{through}
use Rattle.file.proofs.lines.Lines.counts.Goals as goal

pub returns-in_err-count-4-clause-value : goal.returns-in_err-count-4-clause-value
returns-in_err-count-4-clause-value c =
    let n1 : c.args.self.now.number ≡ 2 = c.requires in
    let n2 : c.count.new.self.number ≡ 3 = omega (arith, n1, c.in_ok-count.ensures.number) in
    let n3 : c.count-2.new.self.number ≡ 4 = omega (arith, n2, c.in_ok-count-2.ensures.number) in
    let n4 : c.count-3.new.self.number ≡ 5 = omega (arith, n3, c.in_ok-count-3.ensures.number) in
    let e1 = rw n1 at c.in_ok-count.ensures.value in
    let e2 = rw n2 at c.in_ok-count-2.ensures.value in
    let e3 = rw n3 at c.in_ok-count-3.ensures.value in
    let p = err_from_is_err_and c.from_residual-in_err-count-4.result c.from_residual-in_err-count-4.ensures.1 in
    rw (p.1, p.2) (through _ _ _ (λ q h. rw (← e1, ← e2, ← e3, ← h)) (rw n4 at c.in_err-count-4.ensures.value))

pub returns-in_err-count-5-clause-value : goal.returns-in_err-count-5-clause-value
returns-in_err-count-5-clause-value c =
    let n1 : c.args.self.now.number ≡ 2 = c.requires in
    let n2 : c.count.new.self.number ≡ 3 = omega (arith, n1, c.in_ok-count.ensures.number) in
    let n3 : c.count-2.new.self.number ≡ 4 = omega (arith, n2, c.in_ok-count-2.ensures.number) in
    let n4 : c.count-3.new.self.number ≡ 5 = omega (arith, n3, c.in_ok-count-3.ensures.number) in
    let n5 : c.count-4.new.self.number ≡ 6 = omega (arith, n4, c.in_ok-count-4.ensures.number) in
    let e1 = rw n1 at c.in_ok-count.ensures.value in
    let e2 = rw n2 at c.in_ok-count-2.ensures.value in
    let e3 = rw n3 at c.in_ok-count-3.ensures.value in
    let e4 = rw n4 at c.in_ok-count-4.ensures.value in
    let p = err_from_is_err_and c.from_residual-in_err-count-5.result c.from_residual-in_err-count-5.ensures.1 in
    rw (p.1, p.2) (through _ _ _ (λ q h. rw (← e1, ← e2, ← e3, ← e4, ← h)) (rw n5 at c.in_err-count-5.ensures.value))

pub returns-in_err-count-6-clause-value : goal.returns-in_err-count-6-clause-value
returns-in_err-count-6-clause-value c =
    let n1 : c.args.self.now.number ≡ 2 = c.requires in
    let n2 : c.count.new.self.number ≡ 3 = omega (arith, n1, c.in_ok-count.ensures.number) in
    let n3 : c.count-2.new.self.number ≡ 4 = omega (arith, n2, c.in_ok-count-2.ensures.number) in
    let n4 : c.count-3.new.self.number ≡ 5 = omega (arith, n3, c.in_ok-count-3.ensures.number) in
    let n5 : c.count-4.new.self.number ≡ 6 = omega (arith, n4, c.in_ok-count-4.ensures.number) in
    let n6 : c.count-5.new.self.number ≡ 7 = omega (arith, n5, c.in_ok-count-5.ensures.number) in
    let e1 = rw n1 at c.in_ok-count.ensures.value in
    let e2 = rw n2 at c.in_ok-count-2.ensures.value in
    let e3 = rw n3 at c.in_ok-count-3.ensures.value in
    let e4 = rw n4 at c.in_ok-count-4.ensures.value in
    let e5 = rw n5 at c.in_ok-count-5.ensures.value in
    let p = err_from_is_err_and c.from_residual-in_err-count-6.result c.from_residual-in_err-count-6.ensures.1 in
    rw (p.1, p.2) (through _ _ _ (λ q h. rw (← e1, ← e2, ← e3, ← e4, ← e5, ← h)) (rw n6 at c.in_err-count-6.ensures.value))

pub returns-in_err-count-7-clause-value : goal.returns-in_err-count-7-clause-value
returns-in_err-count-7-clause-value c =
    let n1 : c.args.self.now.number ≡ 2 = c.requires in
    let n2 : c.count.new.self.number ≡ 3 = omega (arith, n1, c.in_ok-count.ensures.number) in
    let n3 : c.count-2.new.self.number ≡ 4 = omega (arith, n2, c.in_ok-count-2.ensures.number) in
    let n4 : c.count-3.new.self.number ≡ 5 = omega (arith, n3, c.in_ok-count-3.ensures.number) in
    let n5 : c.count-4.new.self.number ≡ 6 = omega (arith, n4, c.in_ok-count-4.ensures.number) in
    let n6 : c.count-5.new.self.number ≡ 7 = omega (arith, n5, c.in_ok-count-5.ensures.number) in
    let n7 : c.count-6.new.self.number ≡ 8 = omega (arith, n6, c.in_ok-count-6.ensures.number) in
    let e1 = rw n1 at c.in_ok-count.ensures.value in
    let e2 = rw n2 at c.in_ok-count-2.ensures.value in
    let e3 = rw n3 at c.in_ok-count-3.ensures.value in
    let e4 = rw n4 at c.in_ok-count-4.ensures.value in
    let e5 = rw n5 at c.in_ok-count-5.ensures.value in
    let e6 = rw n6 at c.in_ok-count-6.ensures.value in
    let p = err_from_is_err_and c.from_residual-in_err-count-7.result c.from_residual-in_err-count-7.ensures.1 in
    rw (p.1, p.2) (through _ _ _ (λ q h. rw (← e1, ← e2, ← e3, ← e4, ← e5, ← e6, ← h)) (rw n7 at c.in_err-count-7.ensures.value))

pub returns-in_err-count-8-clause-value : goal.returns-in_err-count-8-clause-value
returns-in_err-count-8-clause-value c =
    let n1 : c.args.self.now.number ≡ 2 = c.requires in
    let n2 : c.count.new.self.number ≡ 3 = omega (arith, n1, c.in_ok-count.ensures.number) in
    let n3 : c.count-2.new.self.number ≡ 4 = omega (arith, n2, c.in_ok-count-2.ensures.number) in
    let n4 : c.count-3.new.self.number ≡ 5 = omega (arith, n3, c.in_ok-count-3.ensures.number) in
    let n5 : c.count-4.new.self.number ≡ 6 = omega (arith, n4, c.in_ok-count-4.ensures.number) in
    let n6 : c.count-5.new.self.number ≡ 7 = omega (arith, n5, c.in_ok-count-5.ensures.number) in
    let n7 : c.count-6.new.self.number ≡ 8 = omega (arith, n6, c.in_ok-count-6.ensures.number) in
    let n8 : c.count-7.new.self.number ≡ 9 = omega (arith, n7, c.in_ok-count-7.ensures.number) in
    let e1 = rw n1 at c.in_ok-count.ensures.value in
    let e2 = rw n2 at c.in_ok-count-2.ensures.value in
    let e3 = rw n3 at c.in_ok-count-3.ensures.value in
    let e4 = rw n4 at c.in_ok-count-4.ensures.value in
    let e5 = rw n5 at c.in_ok-count-5.ensures.value in
    let e6 = rw n6 at c.in_ok-count-6.ensures.value in
    let e7 = rw n7 at c.in_ok-count-7.ensures.value in
    let p = err_from_is_err_and c.from_residual-in_err-count-8.result c.from_residual-in_err-count-8.ensures.1 in
    rw (p.1, p.2) (through _ _ _ (λ q h. rw (← e1, ← e2, ← e3, ← e4, ← e5, ← e6, ← e7, ← h)) (rw n8 at c.in_err-count-8.ensures.value))

pub returns-in_err-count-9-clause-value : goal.returns-in_err-count-9-clause-value
returns-in_err-count-9-clause-value c =
    let n1 : c.args.self.now.number ≡ 2 = c.requires in
    let n2 : c.count.new.self.number ≡ 3 = omega (arith, n1, c.in_ok-count.ensures.number) in
    let n3 : c.count-2.new.self.number ≡ 4 = omega (arith, n2, c.in_ok-count-2.ensures.number) in
    let n4 : c.count-3.new.self.number ≡ 5 = omega (arith, n3, c.in_ok-count-3.ensures.number) in
    let n5 : c.count-4.new.self.number ≡ 6 = omega (arith, n4, c.in_ok-count-4.ensures.number) in
    let n6 : c.count-5.new.self.number ≡ 7 = omega (arith, n5, c.in_ok-count-5.ensures.number) in
    let n7 : c.count-6.new.self.number ≡ 8 = omega (arith, n6, c.in_ok-count-6.ensures.number) in
    let n8 : c.count-7.new.self.number ≡ 9 = omega (arith, n7, c.in_ok-count-7.ensures.number) in
    let n9 : c.count-8.new.self.number ≡ 10 = omega (arith, n8, c.in_ok-count-8.ensures.number) in
    let e1 = rw n1 at c.in_ok-count.ensures.value in
    let e2 = rw n2 at c.in_ok-count-2.ensures.value in
    let e3 = rw n3 at c.in_ok-count-3.ensures.value in
    let e4 = rw n4 at c.in_ok-count-4.ensures.value in
    let e5 = rw n5 at c.in_ok-count-5.ensures.value in
    let e6 = rw n6 at c.in_ok-count-6.ensures.value in
    let e7 = rw n7 at c.in_ok-count-7.ensures.value in
    let e8 = rw n8 at c.in_ok-count-8.ensures.value in
    let p = err_from_is_err_and c.from_residual-in_err-count-9.result c.from_residual-in_err-count-9.ensures.1 in
    rw (p.1, p.2) (through _ _ _ (λ q h. rw (← e1, ← e2, ← e3, ← e4, ← e5, ← e6, ← e7, ← e8, ← h)) (rw n9 at c.in_err-count-9.ensures.value))

pub returns-in_err-count-10-clause-value : goal.returns-in_err-count-10-clause-value
returns-in_err-count-10-clause-value c =
    let n1 : c.args.self.now.number ≡ 2 = c.requires in
    let n2 : c.count.new.self.number ≡ 3 = omega (arith, n1, c.in_ok-count.ensures.number) in
    let n3 : c.count-2.new.self.number ≡ 4 = omega (arith, n2, c.in_ok-count-2.ensures.number) in
    let n4 : c.count-3.new.self.number ≡ 5 = omega (arith, n3, c.in_ok-count-3.ensures.number) in
    let n5 : c.count-4.new.self.number ≡ 6 = omega (arith, n4, c.in_ok-count-4.ensures.number) in
    let n6 : c.count-5.new.self.number ≡ 7 = omega (arith, n5, c.in_ok-count-5.ensures.number) in
    let n7 : c.count-6.new.self.number ≡ 8 = omega (arith, n6, c.in_ok-count-6.ensures.number) in
    let n8 : c.count-7.new.self.number ≡ 9 = omega (arith, n7, c.in_ok-count-7.ensures.number) in
    let n9 : c.count-8.new.self.number ≡ 10 = omega (arith, n8, c.in_ok-count-8.ensures.number) in
    let n10 : c.count-9.new.self.number ≡ 11 = omega (arith, n9, c.in_ok-count-9.ensures.number) in
    let e1 = rw n1 at c.in_ok-count.ensures.value in
    let e2 = rw n2 at c.in_ok-count-2.ensures.value in
    let e3 = rw n3 at c.in_ok-count-3.ensures.value in
    let e4 = rw n4 at c.in_ok-count-4.ensures.value in
    let e5 = rw n5 at c.in_ok-count-5.ensures.value in
    let e6 = rw n6 at c.in_ok-count-6.ensures.value in
    let e7 = rw n7 at c.in_ok-count-7.ensures.value in
    let e8 = rw n8 at c.in_ok-count-8.ensures.value in
    let e9 = rw n9 at c.in_ok-count-9.ensures.value in
    let p = err_from_is_err_and c.from_residual-in_err-count-10.result c.from_residual-in_err-count-10.ensures.1 in
    rw (p.1, p.2) (through _ _ _ (λ q h. rw (← e1, ← e2, ← e3, ← e4, ← e5, ← e6, ← e7, ← e8, ← e9, ← h)) (rw n10 at c.in_err-count-10.ensures.value))

pub returns-clause-value : goal.returns-clause-value
returns-clause-value c =
    let n1 : c.args.self.now.number ≡ 2 = c.requires in
    let n2 : c.count.new.self.number ≡ 3 = omega (arith, n1, c.in_ok-count.ensures.number) in
    let n3 : c.count-2.new.self.number ≡ 4 = omega (arith, n2, c.in_ok-count-2.ensures.number) in
    let n4 : c.count-3.new.self.number ≡ 5 = omega (arith, n3, c.in_ok-count-3.ensures.number) in
    let n5 : c.count-4.new.self.number ≡ 6 = omega (arith, n4, c.in_ok-count-4.ensures.number) in
    let n6 : c.count-5.new.self.number ≡ 7 = omega (arith, n5, c.in_ok-count-5.ensures.number) in
    let n7 : c.count-6.new.self.number ≡ 8 = omega (arith, n6, c.in_ok-count-6.ensures.number) in
    let n8 : c.count-7.new.self.number ≡ 9 = omega (arith, n7, c.in_ok-count-7.ensures.number) in
    let n9 : c.count-8.new.self.number ≡ 10 = omega (arith, n8, c.in_ok-count-8.ensures.number) in
    let n10 : c.count-9.new.self.number ≡ 11 = omega (arith, n9, c.in_ok-count-9.ensures.number) in
    let e1 = rw n1 at c.in_ok-count.ensures.value in
    let e2 = rw n2 at c.in_ok-count-2.ensures.value in
    let e3 = rw n3 at c.in_ok-count-3.ensures.value in
    let e4 = rw n4 at c.in_ok-count-4.ensures.value in
    let e5 = rw n5 at c.in_ok-count-5.ensures.value in
    let e6 = rw n6 at c.in_ok-count-6.ensures.value in
    let e7 = rw n7 at c.in_ok-count-7.ensures.value in
    let e8 = rw n8 at c.in_ok-count-8.ensures.value in
    let e9 = rw n9 at c.in_ok-count-9.ensures.value in
    let e10 = rw n10 at c.in_ok-count-10.ensures.value in
    rw (← e1, ← e2, ← e3, ← e4, ← e5, ← e6, ← e7, ← e8, ← e9, ← e10)
