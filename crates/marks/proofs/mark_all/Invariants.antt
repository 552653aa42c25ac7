-- `marks::mark_all` meets its contract. Assumes nothing.
use mathlib.Core.Path.{◌≡◌}
use lib.ListN.{take}
use Rattle.marks.specs.Marks.{marked}
use Rattle.marks.proofs.mark_all.Given as goal

abbrev pub invariant-loop-number : goal.invariant-loop-number
invariant-loop-number l = l.marks ≡ marked (take l.number-index l.numbers) l.initial.marks
