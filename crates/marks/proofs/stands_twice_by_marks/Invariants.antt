-- `marks::stands_twice_by_marks` meets its contract. Assumes nothing.
use mathlib.Core.Bool.{false}
use mathlib.Core.Path.{◌≡◌}
use lib.ListN.{length, take}
use Rattle.complex.specs.Builder.{repeats}
use Rattle.marks.specs.Marks.{marked}
use Rattle.marks.proofs.stands_twice_by_marks.Given as goal

abbrev pub invariant-loop-number : goal.invariant-loop-number
invariant-loop-number l = (length l.marks ≡ 81920) × (l.marks ≡ marked (take l.number-index l.numbers) l.initial.marks) × (repeats (take l.number-index l.numbers) ≡ false)
