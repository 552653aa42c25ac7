-- `hinge_table::write_all` meets its contract. Assumes nothing.
use mathlib.Core.Path.{◌≡◌}
use lib.ListN.{take}
use Rattle.lists.specs.Lists.{upto}
use Rattle.lists.specs.Writes.{writes}
use Rattle.hinges.specs.Hinges.{hinges, hinge_in, faces_of}
use Rattle.hinge_table.proofs.write_all.Given as goal

abbrev pub invariant-loop-t : goal.invariant-loop-t
invariant-loop-t l = l.record-items ≡ writes (hinge_in (hinges (faces_of l.built.complex) l.sq_lengths)) (upto l.t) (take l.n l.fn.table)
