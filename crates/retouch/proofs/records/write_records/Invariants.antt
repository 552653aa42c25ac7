-- `retouch::records::write_records` meets its contract. Assumes nothing.
use mathlib.Core.Path.{◌≡◌}
use lib.ListN.{length, take}
use Rattle.lists.specs.Writes.{writes}
use Rattle.lorentzian.specs.Dihedral.{kind_number}
use Rattle.hinges.specs.Hinges.{hinges, hinge_in, faces_of}
use Rattle.retouch.proofs.records.write_records.Given as goal

abbrev pub invariant-loop-tri : goal.invariant-loop-tri
invariant-loop-tri l = (length l.deficits ≡ length l.initial.deficits) × (length l.kinds ≡ length l.initial.kinds)
    × (l.deficits ≡ writes (λ t. (hinge_in (hinges (faces_of l.built.complex) l.sq_lengths) t).deficit) (take l.tri-index l.tris) l.initial.deficits)
    × (l.kinds ≡ writes (λ t. kind_number (hinge_in (hinges (faces_of l.built.complex) l.sq_lengths) t).kind) (take l.tri-index l.tris) l.initial.kinds)
