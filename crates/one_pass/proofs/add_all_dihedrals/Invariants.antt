-- `one_pass::add_all_dihedrals` meets its contract. Assumes nothing.
use Prim.Native.Nat.{ℕ}
use mathlib.Core.Path.{◌≡◌}
use mathlib.Core.List.{List}
use lib.ListN.{take}
use lib.Ieee.{Float, nan}
use Rattle.lists.specs.Lists.{gather}
use Rattle.lists.specs.Loops.{scatter}
use Rattle.lorentzian.specs.declared.dihedral.Dihedral.{Dihedral}
use Rattle.hinges.specs.Hinges.{FaceLists, plus, dihedrals, faces_of}
use Rattle.one_pass.specs.Pass.{byte_of_first}
use Rattle.one_pass.proofs.add_all_dihedrals.Given as goal

-- the dihedrals of the pentachorons before p
abbrev pub before : FaceLists → List Float → ℕ → List (ℕ × Dihedral)
before F ls p = gather (dihedrals F ls) (take p F.pents)

abbrev pub invariant-loop-p : goal.invariant-loop-p
invariant-loop-p l =
    (l.sums ≡ scatter nan plus (before (faces_of l.complex) l.sq_lengths l.p) l.initial.sums)
    × (l.kinds ≡ scatter 0 byte_of_first (before (faces_of l.complex) l.sq_lengths l.p) l.initial.kinds)
