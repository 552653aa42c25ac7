-- `marks::count_marked` meets its contract. Assumes nothing.
use Prim.Native.Nat.{◌+◌}
use mathlib.Core.List.{[], ◌∷◌}
use mathlib.Core.Path.{sym, ap}
use native.Mathlib.Omega.{arith}
use lib.ListN.{length, length-append}
use Rattle.marks.specs.Marks.{marked_below}
use Rattle.marks.proofs.Marking.{marked-most, next-stands, next-on, next-first, next-one}
use Rattle.marks.proofs.count_marked.Goals as goal

pub loop-t-init : goal.loop-t-init
loop-t-init c =
    let M = c.args.marks.now in
    let next = c.next_marked-t in
    (next-stands M 0 next.result (omega arith) next.ensures, sym (ap length (next-first M next.result next.ensures)))

pub overflow_add-n : goal.overflow_add-n
overflow_add-n c = omega (arith, c.loop-t.invariant.1, marked-most c.args.marks.now c.loop-t.t)

pub loop-t-smaller : goal.loop-t-smaller
loop-t-smaller c = let next = c.next_marked-t-in-loop-t in omega (arith, next-on c.args.marks.now (c.loop-t.t + 1) next.result (omega (arith, c.loop-t-test.true)) next.ensures)

pub loop-t-preserved : goal.loop-t-preserved
loop-t-preserved c =
    let M = c.args.marks.now in
    let l = c.loop-t in
    let next = c.next_marked-t-in-loop-t in
    let h = c.loop-t-test.true in
    let one = next-one M l.t next.result l.invariant.0 h next.ensures in (
      next-stands M (l.t + 1) next.result (omega (arith, h)) next.ensures,
      omega (arith, l.invariant.1, ap length one, length-append (marked_below l.t M) (l.t ∷ [])),
    )
