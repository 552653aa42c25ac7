-- `incidence::tri_edge_indices` meets its contract. Assumes nothing.
use mathlib.Core.Path.{◌∙◌}
use Rattle.complex.specs.Lent.{edges_of}
use Rattle.incidence.proofs.Incident.{first_holder, ten-own, own-triangle, below-ten, edges-own}
use Rattle.incidence.proofs.tri_edge_indices.Goals as goal

pub bounds-holders-0 : goal.bounds-holders-0
bounds-holders-0 c =
    let a = c.args in
    let r = c.requires in
    let hs = c.pents_of_triangle-holders in
    (first_holder a.complex.now r.1 a.tri.0 r.5 hs.result.now hs.ensures).0

pub pent_tri_indices-tris-requires : goal.pent_tri_indices-tris-requires
pent_tri_indices-tris-requires c =
    let a = c.args in
    let r = c.requires in
    let hs = c.pents_of_triangle-holders in
    (r.4, (first_holder a.complex.now r.1 a.tri.0 r.5 hs.result.now hs.ensures).1)

pub pent_edge_indices-own-requires : goal.pent_edge_indices-own-requires
pent_edge_indices-own-requires c =
    let a = c.args in
    let r = c.requires in
    let hs = c.pents_of_triangle-holders in
    (r.3, (first_holder a.complex.now r.1 a.tri.0 r.5 hs.result.now hs.ensures).1)

pub local_index-requires : goal.local_index-requires
local_index-requires c =
    let a = c.args in
    let r = c.requires in
    let hs = c.pents_of_triangle-holders in
    let f = first_holder a.complex.now r.1 a.tri.0 r.5 hs.result.now hs.ensures in
    own-triangle a.complex.now r.0 r.4.room _ a.tri.0 f.1 r.5 _ c.pent_tri_indices-tris.ensures f.2

pub edges_at-requires : goal.edges_at-requires
edges_at-requires c =
    let a = c.args in
    let r = c.requires in
    let hs = c.pents_of_triangle-holders in
    let f = first_holder a.complex.now r.1 a.tri.0 r.5 hs.result.now hs.ensures in
    let t = c.pent_tri_indices-tris.ensures in
    let l = c.local_index in
    (ten-own a.complex.now r.0 r.4.room _ a.tri.0 f.1 r.5 _ t (edges_of a.complex.now) _ c.pent_edge_indices-own.ensures, below-ten a.complex.now r.0 r.4.room _ a.tri.0 f.1 r.5 _ t l.result l.ensures.0 l.ensures.1)

pub returns : goal.returns
returns c =
    let a = c.args in
    let r = c.requires in
    let hs = c.pents_of_triangle-holders in
    let f = first_holder a.complex.now r.1 a.tri.0 r.5 hs.result.now hs.ensures in
    let l = c.local_index in
    c.edges_at.ensures
    ∙ edges-own a.complex.now r.0 r.4.room _ a.tri.0 f.1 r.5 _ c.pent_tri_indices-tris.ensures l.result l.ensures.0 l.ensures.1 (edges_of a.complex.now) _ c.pent_edge_indices-own.ensures
