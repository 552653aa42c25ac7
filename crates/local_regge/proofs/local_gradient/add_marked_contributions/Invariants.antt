-- `local_regge::local_gradient::add_marked_contributions` meets its contract. Assumes nothing.
use Prim.Native.Nat.{◌-◌}
use mathlib.Core.Path.{◌≡◌}
use lib.Ieee.{nan}
use lib.ListN.{length}
use Rattle.floats.specs.Ops.{◌⊕◌}
use Rattle.lists.specs.Lists.{gather}
use Rattle.lists.specs.Loops.{scatter}
use Rattle.marks.specs.Marks.{marked_below}
use Rattle.marks.proofs.Marking.{AtMark}
use Rattle.hinges.specs.Hinges.{hinges, deficits_of, faces_of}
use Rattle.hinges.specs.Action.{contributions}
use Rattle.local_regge.proofs.local_gradient.add_marked_contributions.Given as goal

abbrev pub invariant-loop-t : goal.invariant-loop-t
invariant-loop-t l =
    AtMark l.front l.t
    × (l.entries ≡ scatter nan ◌⊕◌ (gather (contributions (faces_of l.built.complex) l.sq_lengths (deficits_of (hinges (faces_of l.built.complex) l.sq_lengths))) (marked_below l.t l.front)) l.initial.entries)

abbrev pub decreases-loop-t : goal.decreases-loop-t
decreases-loop-t l = length l.front - l.t
