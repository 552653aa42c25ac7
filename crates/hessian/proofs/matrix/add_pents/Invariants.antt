-- `hessian::matrix::add_pents` meets its contract. Assumes nothing.
use Prim.Native.Nat.{◌-◌}
use lib.ListN.{length}
use Rattle.floats.specs.Ops.{◌⊕◌}
use Rattle.lists.specs.Lists.{gather}
use Rattle.marks.specs.Marks.{marked_below}
use Rattle.marks.proofs.Marking.{AtMark}
use Rattle.hinges.specs.Hinges.{faces_of}
use Rattle.second_derivatives.specs.Matrix.{Scattered}
use Rattle.hessian.specs.Parts.{second_at}
use Rattle.hessian.proofs.matrix.add_pents.Given as goal

abbrev pub invariant-loop-p : goal.invariant-loop-p
invariant-loop-p l =
    AtMark l.front l.p
    × Scattered ◌⊕◌ (gather (second_at (faces_of l.built.complex) l.built.sq_lengths.now l.free_edges l.fd_eps) (marked_below l.p l.front)) l.initial.matrix l.matrix

abbrev pub decreases-loop-p : goal.decreases-loop-p
decreases-loop-p l = length l.front - l.p
