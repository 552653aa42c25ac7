-- `hessian::matrix::add_tris` meets its contract. Assumes nothing.
use Prim.Native.Nat.{◌-◌}
use mathlib.Core.Path.{◌≡◌}
use lib.Ieee.{nan}
use lib.ListN.{length}
use Rattle.floats.specs.Ops.{◌⊕◌}
use Rattle.lists.specs.Lists.{gather}
use Rattle.lists.specs.Loops.{scatter}
use Rattle.marks.specs.Marks.{marked_below}
use Rattle.marks.proofs.Marking.{AtMark}
use Rattle.hinges.specs.Hinges.{faces_of}
use Rattle.second_derivatives.specs.Parts.{before}
use Rattle.second_derivatives.specs.Matrix.{Scattered}
use Rattle.hessian.specs.Parts.{diagonal_at, first_at}
use Rattle.hessian.proofs.matrix.add_tris.Given as goal

abbrev pub invariant-loop-t : goal.invariant-loop-t
invariant-loop-t l =
    AtMark l.front l.t
    × (length l.diagonal ≡ length l.initial.diagonal)
    × (l.diagonal ≡ scatter nan ◌⊕◌ (gather (diagonal_at (faces_of l.built.complex) l.built.sq_lengths.now) (marked_below l.t l.front)) l.initial.diagonal)
    × Scattered before (gather (first_at (faces_of l.built.complex) l.built.sq_lengths.now l.free_edges) (marked_below l.t l.front)) l.initial.matrix l.matrix

abbrev pub decreases-loop-t : goal.decreases-loop-t
decreases-loop-t l = length l.front - l.t
