-- `marks::mark_met` meets its contract. Assumes nothing.
use Prim.Native.Nat.{ℕ}
use mathlib.Core.List.{List}
use mathlib.Core.Path.{◌≡◌}
use lib.ListN.{length, take}
use Rattle.marks.specs.Marks.{met, marked, IsMeeting}
use Rattle.marks.proofs.mark_met.Given as goal

abbrev pub invariant-loop-edge : goal.invariant-loop-edge
invariant-loop-edge l =
    (rs edges : List (List ℕ)) → IsMeeting rs edges l.adjacency l.free_edges (length l.initial.marks) → l.marks ≡ marked (met rs edges (take l.edge-index l.free_edges)) l.initial.marks
