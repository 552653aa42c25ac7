-- `length_signs::length_signs` meets its contract. Assumes nothing.
use mathlib.Core.Path.{◌≡◌}
use lib.ListN.{take}
use Rattle.length_signs.specs.LengthSigns.{signs_of}
use Rattle.length_signs.proofs.length_signs.Given as goal

abbrev pub invariant-loop-s : goal.invariant-loop-s
invariant-loop-s l = l.signs ≡ signs_of (take l.s-index l.sq_lengths)
