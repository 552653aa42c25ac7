-- `incidence::opposite_local_indices` meets its contract. Assumes nothing.
use native.Mathlib.Omega.{arith}
use Rattle.lists.proofs.Tests.{said}
use Rattle.lists.proofs.Elements.{within-says}
use Rattle.incidence.proofs.Incident.{own-triangle, below-ten, opposite-own}
use Rattle.incidence.proofs.opposite_local_indices.Goals as goal

pub local_index-requires : goal.local_index-requires
local_index-requires c =
    let a = c.args in
    let r = c.requires in
    own-triangle a.complex.now r.0 r.1.room a.pent.0 a.tri.0 r.2 r.3 _ c.pent_tri_indices-tris.ensures (said (within-says _ _) r.4)

pub bounds-local_index-local_index : goal.bounds-local_index-local_index
bounds-local_index-local_index c =
    let a = c.args in
    let r = c.requires in
    let l = c.local_index in
    below-ten a.complex.now r.0 r.1.room a.pent.0 a.tri.0 r.2 r.3 _ c.pent_tri_indices-tris.ensures l.result l.ensures.0 l.ensures.1

pub offset_bounds-local_index : goal.offset_bounds-local_index
offset_bounds-local_index c =
    let a = c.args in
    let r = c.requires in
    let l = c.local_index in
    omega (arith, below-ten a.complex.now r.0 r.1.room a.pent.0 a.tri.0 r.2 r.3 _ c.pent_tri_indices-tris.ensures l.result l.ensures.0 l.ensures.1)

pub returns : goal.returns
returns c =
    let a = c.args in
    let r = c.requires in
    let l = c.local_index in
    opposite-own a.complex.now r.0 r.1.room a.pent.0 a.tri.0 r.2 r.3 _ c.pent_tri_indices-tris.ensures l.result l.ensures.0 l.ensures.1
