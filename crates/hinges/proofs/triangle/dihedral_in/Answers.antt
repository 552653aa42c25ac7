-- `hinges::triangle::dihedral_in` meets its contract. Assumes nothing.
use Rattle.std.proofs.Common.{rules}
use mathlib.Core.Path.{◌≡◌, refl, ◌∙◌}
use mathlib.Core.List.{[]}
use lib.ListN.{get_or}
use Rattle.complex.specs.Lent.{pents_of, triangles_of}
use Rattle.hinges.specs.Hinges.{dihedral_at, pent_lengths, dihedral_in}
use Rattle.hinges.proofs.PentachoronSteps.{pent-five, own-edges}
use Rattle.hinges.proofs.TriangleSteps.{opposite-below}
use Rattle.hinges.proofs.triangle.dihedral_in.Goals as goal

pub pent_sq_lengths-s-requires : goal.pent_sq_lengths-s-requires
pent_sq_lengths-s-requires c = own-edges c.requires.0.passable c.args.pent.0 c.requires.1 c.pent_edge_indices-own.result.now c.pent_edge_indices-own.ensures

pub dihedral_at-requires-clause-in_range : goal.dihedral_at-requires-clause-in_range
dihedral_at-requires-clause-in_range c =
    let a = c.args in
    let at = c.opposite_local_indices-at in
    opposite-below (get_or (pents_of a.complex.now) a.pent.0 []) (get_or (triangles_of a.complex.now) a.tri.0 []) at.result (pent-five c.requires.0.passable a.pent.0 c.requires.1) at.ensures

pub returns : goal.returns
unfolding dihedral_in pent_lengths
returns c =
    let s = c.pent_sq_lengths-s in
    let at = c.opposite_local_indices-at in
    let e : c.dihedral_at.result ≡ dihedral_at s.result at.result.l at.result.m = search rules in
    e ∙ rw (s.ensures, c.pent_edge_indices-own.ensures, ← at.ensures) refl
