-- `local_regge::local_deficits::write_hinges` meets its contract. Assumes nothing.
use mathlib.Core.List.{◌++◌, map}
use mathlib.Core.Path.{◌≡◌}
use lib.ListN.{take, drop}
use Rattle.lorentzian.specs.Dihedral.{kind_number}
use Rattle.hinges.specs.Hinges.{hinges, hinge_in, faces_of}
use Rattle.local_regge.proofs.local_deficits.write_hinges.Given as goal

abbrev pub invariant-loop-k : goal.invariant-loop-k
invariant-loop-k l =
    let T = hinges (faces_of l.built.complex) l.sq_lengths in
    (l.deficits ≡ map (λ t. (hinge_in T t).deficit) (take l.k l.tris) ++ drop l.k l.initial.deficits)
    × (l.kinds ≡ map (λ t. kind_number (hinge_in T t).kind) (take l.k l.tris) ++ drop l.k l.initial.kinds)
