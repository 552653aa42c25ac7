-- `marks::any_marked` meets its contract. Assumes nothing.
use mathlib.Core.Path.{◌≡◌}
use lib.ListN.{take}
use Rattle.std.specs.List.{list_any}
use Rattle.marks.proofs.any_marked.Given as goal

abbrev pub invariant-loop-mark : goal.invariant-loop-mark
invariant-loop-mark l = l.any ≡ list_any (λ mark. mark) (take l.mark-index l.marks)
