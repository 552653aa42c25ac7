-- `marks::list_marked` meets its contract. Assumes nothing.
use Prim.Native.Nat.{◌-◌}
use mathlib.Core.List.{◌++◌}
use mathlib.Core.Path.{◌≡◌}
use lib.ListN.{length, drop}
use Rattle.marks.specs.Marks.{marked_below}
use Rattle.marks.proofs.Marking.{AtMark}
use Rattle.marks.proofs.list_marked.Given as goal

abbrev pub invariant-loop-t : goal.invariant-loop-t
invariant-loop-t l = AtMark l.marks l.t × (l.count ≡ length (marked_below l.t l.marks)) × (l.list ≡ marked_below l.t l.marks ++ drop l.count l.initial.list)

abbrev pub decreases-loop-t : goal.decreases-loop-t
decreases-loop-t l = length l.marks - l.t
