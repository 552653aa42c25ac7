-- `hinges::triangle::hinge_at` meets its contract. Assumes nothing.
use Rattle.std.specs.Prelude.{None}
use Prim.Native.Nat.{ℕ}
use mathlib.Core.Path.{◌≡◌}
use mathlib.Core.List.{[], map, foldl}
use lib.ListN.{get_or, take}
use Rattle.floats.specs.Ops.{zero}
use Rattle.complex.specs.Complex.{holding}
use Rattle.complex.specs.Lent.{pents_of, triangles_of}
use Rattle.lorentzian.specs.declared.dihedral.Dihedral.{Dihedral}
use Rattle.hinges.specs.Hinges.{plus, first, dihedral_in, faces_of}
use Rattle.hinges.proofs.triangle.hinge_at.Given as goal

abbrev pub invariant-loop-pent : goal.invariant-loop-pent
invariant-loop-pent l =
    let t = get_or (triangles_of l.complex) l.tri.0 [] in
    let f : ℕ → Dihedral = dihedral_in (faces_of l.complex) l.sq_lengths t in
    let before = take l.pent-index (holding (pents_of l.complex) t) in
    (l.sum ≡ foldl plus zero (map f before)) × (l.kind ≡ foldl first None (map f before))
