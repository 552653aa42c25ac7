-- `marks::next_marked` meets its contract. Assumes nothing.
use Prim.Native.Nat.{ℕ, ◌+◌, ◌-◌}
use mathlib.Core.Path.{◌≡◌, sym, ap, ◌∙◌}
use native.Mathlib.Omega.{arith}
use lib.ListN.{take, drop}
use Rattle.std.specs.List.{list_any}
use Rattle.marks.proofs.Marking.{next-here, next-past, next-far, next-end}
use Rattle.marks.proofs.next_marked.Goals as goal

pub loop-t-preserved : goal.loop-t-preserved
loop-t-preserved c =
    let M = c.args.marks.now in
    let l = c.loop-t in
    let chunk : 64 ≡ l.t + 64 - l.t = omega arith in
    let none = ap (λ (n : ℕ). list_any (λ mark. mark) (take n (drop l.t M))) chunk ∙ sym c.any_marked.ensures ∙ c.if-not-any_marked.true in
    (omega (arith, c.loop-t-test.true), sym (next-far M l.t 64 (omega (arith, c.loop-t-test.true)) none) ∙ l.invariant.1)

pub loop-t-2-preserved : goal.loop-t-2-preserved
loop-t-2-preserved c =
    let M = c.args.marks.now in
    let l = c.loop-t-2 in
    (omega (arith, c.loop-t-2-test.true), sym (next-past M l.t c.loop-t-2-test.true c.if-not-marks-t.true) ∙ l.invariant.1)

pub returns-else-not-marks-t : goal.returns-else-not-marks-t
returns-else-not-marks-t c =
    let l = c.loop-t-2 in
    sym (next-here c.args.marks.now l.t c.loop-t-2-test.true c.if-not-marks-t.false) ∙ l.invariant.1

pub returns-after-loop-t-2 : goal.returns-after-loop-t-2
returns-after-loop-t-2 c =
    let l = c.loop-t-2 in
    sym (next-end c.args.marks.now l.t (omega (arith, l.invariant.0, c.loop-t-2-test.false))) ∙ l.invariant.1
