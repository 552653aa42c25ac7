-- `hinge_table::write_records` meets its contract. Assumes nothing.
use mathlib.Core.Path.{◌≡◌}
use lib.ListN.{length, take}
use Rattle.lists.specs.Writes.{writes}
use Rattle.hinges.specs.Hinges.{hinges, hinge_in, faces_of}
use Rattle.hinge_table.proofs.write_records.Given as goal

abbrev pub invariant-loop-tri : goal.invariant-loop-tri
invariant-loop-tri l = (length l.table ≡ length l.initial.table)
    × (l.table ≡ writes (hinge_in (hinges (faces_of l.built.complex) l.sq_lengths)) (take l.tri-index l.tris) l.initial.table)
