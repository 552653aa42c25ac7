-- `hessian::matrix::add_tris` meets its contract. Assumes nothing.
use Prim.Native.Nat.{ℕ, ◌+◌}
use mathlib.Core.List.{List}
use mathlib.Core.Path.{refl, sym, ap, ◌∙◌}
use native.Mathlib.Omega.{arith}
use lib.Ieee.{Float, nan}
use lib.ListN.{take}
use lib.Seq.{length-take-le}
use Rattle.floats.specs.Ops.{◌⊕◌}
use Rattle.lists.specs.Lists.{gather}
use Rattle.lists.specs.Loops.{scatter}
use Rattle.marks.proofs.Marking.{next-stands, next-on, next-first, scatter-marked, walk-ended}
use Rattle.hinges.specs.Hinges.{FaceLists, faces_of}
use Rattle.second_derivatives.specs.Parts.{before}
use Rattle.hessian.specs.Parts.{diagonal_at, first_at}
use Rattle.hessian.proofs.Again.{measured-of}
use Rattle.hessian.proofs.HessianLoops.{scattered-unmarked, scattered-marked}
use Rattle.hessian.proofs.matrix.add_tris.Goals as goal

pub loop-t-init : goal.loop-t-init
unfolding gather scatter
loop-t-init c =
    let a = c.args in
    let front = take a.built.now.complex.counts.triangles a.marks.now in
    let first = c.next_marked-t in
    let diagonals : ℕ → List (ℕ × Float) = diagonal_at (faces_of a.built.now.complex) a.built.now.sq_lengths.now in (
      next-stands front 0 first.result (omega arith) first.ensures,
      refl,
      ap (λ own. scatter nan ◌⊕◌ (gather diagonals own) a.diagonal.now) (sym (next-first front first.result first.ensures)),
      scattered-unmarked before _ front first.result first.ensures _,
    )

pub overflow_cast-tri : goal.overflow_cast-tri
overflow_cast-tri c =
    let x = c.args.built.now in
    omega (arith, c.loop-t-test.true, length-take-le x.complex.counts.triangles c.args.marks.now c.requires.0, (measured-of x).few)

pub loop-t-smaller : goal.loop-t-smaller
loop-t-smaller c =
    let front = take c.args.built.now.complex.counts.triangles c.args.marks.now in
    let next = c.next_marked-t-in-loop-t in
    omega (arith, next-on front (c.loop-t.t + 1) next.result (omega (arith, c.loop-t-test.true)) next.ensures)

pub loop-t-preserved : goal.loop-t-preserved
loop-t-preserved c =
    let a = c.args in
    let l = c.loop-t in
    let h = c.loop-t-test.true in
    let front = take a.built.now.complex.counts.triangles a.marks.now in
    let next = c.next_marked-t-in-loop-t in
    let F : FaceLists = faces_of a.built.now.complex in
    let diagonals : ℕ → List (ℕ × Float) = diagonal_at F a.built.now.sq_lengths.now in
    let others : ℕ → List (ℕ × Float) = first_at F a.built.now.sq_lengths.now a.free_edges.now in
    let f = c.add_tri in (
      next-stands front (l.t + 1) next.result (omega (arith, h)) next.ensures,
      f.auto.diagonal ∙ l.invariant.1,
      scatter-marked nan ◌⊕◌ diagonals front l.t l.invariant.0 h a.diagonal.now l.diagonal l.invariant.2 _ refl _ f.ensures.diagonal next.result next.ensures,
      scattered-marked before others front l.t l.invariant.0 h a.matrix.now l.matrix l.invariant.3 _ refl _ f.ensures.others next.result next.ensures,
    )

pub returns : goal.returns
returns c =
    let l = c.loop-t in
    let own = walk-ended c.args.marks.now c.args.built.now.complex.counts.triangles l.t c.requires.0 l.invariant.0 (omega (arith, c.loop-t-test.false)) in
    record { diagonal = rw own at l.invariant.2; others = rw own at l.invariant.3 }
