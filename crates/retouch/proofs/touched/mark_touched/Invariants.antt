-- `retouch::touched::mark_touched` meets its contract. Assumes nothing.
use mathlib.Core.Path.{◌≡◌}
use lib.ListN.{length, take}
use Rattle.marks.specs.Marks.{marked}
use Rattle.hinges.specs.Hinges.{faces_of}
use Rattle.retouch.proofs.TouchedSteps.{triangles_of}
use Rattle.retouch.proofs.touched.mark_touched.Given as goal

abbrev pub invariant-loop-holder : goal.invariant-loop-holder
invariant-loop-holder l =
    (l.marks ≡ marked (triangles_of (faces_of l.complex) (take l.holder-index l.holders)) l.initial.marks) × (length l.marks ≡ length l.initial.marks)
