-- `hessian::matrix::add_pents` meets its contract. Assumes nothing.
use Prim.Native.Nat.{ℕ, ◌+◌}
use mathlib.Core.List.{List}
use mathlib.Core.Path.{refl}
use native.Mathlib.Omega.{arith}
use lib.Ieee.{Float}
use lib.ListN.{take}
use lib.Seq.{length-take-le}
use Rattle.floats.specs.Ops.{◌⊕◌}
use Rattle.marks.proofs.Marking.{next-stands, next-on, walk-ended}
use Rattle.hinges.specs.Hinges.{faces_of}
use Rattle.hessian.specs.Parts.{second_at}
use Rattle.hessian.proofs.Again.{measured-of}
use Rattle.hessian.proofs.HessianLoops.{scattered-unmarked, scattered-marked}
use Rattle.hessian.proofs.matrix.add_pents.Goals as goal

pub loop-p-init : goal.loop-p-init
loop-p-init c =
    let front = take c.args.built.now.complex.counts.pentachorons c.args.marks.now in
    let first = c.next_marked-p in
    (next-stands front 0 first.result (omega arith) first.ensures, scattered-unmarked ◌⊕◌ _ front first.result first.ensures _)

pub overflow_cast-pent : goal.overflow_cast-pent
overflow_cast-pent c =
    let x = c.args.built.now in
    omega (arith, c.loop-p-test.true, length-take-le x.complex.counts.pentachorons c.args.marks.now c.requires.0, (measured-of x).passable.few)

pub loop-p-smaller : goal.loop-p-smaller
loop-p-smaller c =
    let front = take c.args.built.now.complex.counts.pentachorons c.args.marks.now in
    let next = c.next_marked-p-in-loop-p in
    omega (arith, next-on front (c.loop-p.p + 1) next.result (omega (arith, c.loop-p-test.true)) next.ensures)

pub loop-p-preserved : goal.loop-p-preserved
loop-p-preserved c =
    let a = c.args in
    let l = c.loop-p in
    let h = c.loop-p-test.true in
    let front = take a.built.now.complex.counts.pentachorons a.marks.now in
    let next = c.next_marked-p-in-loop-p in
    let events : ℕ → List (ℕ × Float) = second_at (faces_of a.built.now.complex) a.built.now.sq_lengths.now a.free_edges.now a.fd_eps in (
      next-stands front (l.p + 1) next.result (omega (arith, h)) next.ensures,
      scattered-marked ◌⊕◌ events front l.p l.invariant.0 h a.matrix.now l.matrix l.invariant.1 _ refl _ c.add_pent.ensures next.result next.ensures,
    )

pub returns : goal.returns
returns c =
    let l = c.loop-p in
    let own = walk-ended c.args.marks.now c.args.built.now.complex.counts.pentachorons l.p c.requires.0 l.invariant.0 (omega (arith, c.loop-p-test.false)) in
    rw own at l.invariant.1
