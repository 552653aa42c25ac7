-- `marks::next_marked` meets its contract. Assumes nothing.
use Prim.Native.Nat.{◌-◌, ◌≤◌}
use mathlib.Core.Path.{◌≡◌}
use lib.ListN.{length}
use Rattle.marks.specs.Marks.{next_marked}
use Rattle.marks.proofs.next_marked.Given as goal

abbrev pub invariant-loop-t : goal.invariant-loop-t
invariant-loop-t l = (l.t ≤ length l.marks) × (next_marked l.t l.marks ≡ next_marked l.from l.marks)

abbrev pub decreases-loop-t : goal.decreases-loop-t
decreases-loop-t l = length l.marks - l.t

abbrev pub invariant-loop-t-2 : goal.invariant-loop-t-2
invariant-loop-t-2 l = (l.t ≤ length l.marks) × (next_marked l.t l.marks ≡ next_marked l.from l.marks)

abbrev pub decreases-loop-t-2 : goal.decreases-loop-t-2
decreases-loop-t-2 l = length l.marks - l.t
