-- `marks::list_marked` meets its contract. Assumes nothing.
use Prim.Native.Nat.{◌+◌}
use mathlib.Core.List.{[], ◌∷◌, ◌++◌}
use mathlib.Core.Path.{sym, ap}
use native.Mathlib.Omega.{arith}
use lib.ListN.{length, length-append}
use Rattle.lists.proofs.Rows.{front-turn}
use Rattle.marks.specs.Marks.{marked_below}
use Rattle.marks.proofs.Marking.{marked-room, next-stands, next-on, next-first, next-one}
use Rattle.marks.proofs.list_marked.Goals as goal

pub loop-t-init : goal.loop-t-init
loop-t-init c =
    let M = c.args.marks.now in
    let next = c.next_marked-t in
    let none = next-first M next.result next.ensures in
    (next-stands M 0 next.result (omega arith) next.ensures, sym (ap length none), ap (λ own. own ++ c.args.list.now) (sym none))

pub bounds-list-count : goal.bounds-list-count
bounds-list-count c =
    let M = c.args.marks.now in
    let l = c.loop-t in
    omega (arith, marked-room M l.t (length M) c.loop-t-test.true (l.invariant.0.mark c.loop-t-test.true), l.invariant.1, c.requires.1)

pub loop-t-smaller : goal.loop-t-smaller
loop-t-smaller c = let next = c.next_marked-t-in-loop-t in omega (arith, next-on c.args.marks.now (c.loop-t.t + 1) next.result (omega (arith, c.loop-t-test.true)) next.ensures)

pub loop-t-preserved : goal.loop-t-preserved
loop-t-preserved c =
    let a = c.args in
    let M = a.marks.now in
    let l = c.loop-t in
    let next = c.next_marked-t-in-loop-t in
    let h = c.loop-t-test.true in
    let e = l.invariant.0.mark h in
    let one = next-one M l.t next.result l.invariant.0 h next.ensures in (
      next-stands M (l.t + 1) next.result (omega (arith, h)) next.ensures,
      omega (arith, l.invariant.1, ap length one, length-append (marked_below l.t M) (l.t ∷ [])),
      rw one (front-turn (marked_below l.t M) l.t a.list.now l.list l.count (sym l.invariant.1) (omega (arith, marked-room M l.t (length M) h e, l.invariant.1, c.requires.1)) l.auto.list l.invariant.2),
    )
