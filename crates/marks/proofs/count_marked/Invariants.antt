-- `marks::count_marked` meets its contract. Assumes nothing.
use Prim.Native.Nat.{◌-◌}
use mathlib.Core.Path.{◌≡◌}
use lib.ListN.{length}
use Rattle.marks.specs.Marks.{marked_below}
use Rattle.marks.proofs.Marking.{AtMark}
use Rattle.marks.proofs.count_marked.Given as goal

abbrev pub invariant-loop-t : goal.invariant-loop-t
invariant-loop-t l = AtMark l.marks l.t × (l.n ≡ length (marked_below l.t l.marks))

abbrev pub decreases-loop-t : goal.decreases-loop-t
decreases-loop-t l = length l.marks - l.t
