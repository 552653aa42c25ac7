-- `lattice_edges::edges::sq_length` meets its contract. Assumes nothing.
use mathlib.Core.Path.{refl}
use native.Mathlib.Omega.{arith}
use Rattle.foliation.proofs.Sizes.{sizes}
use Rattle.foliation.proofs.Coordinates.{coords-near}
use Rattle.lattice_edges.specs.Edges.{delta_of, minkowski, sq_length_of}
use Rattle.lattice_edges.proofs.edges.sq_length.Goals as goal

pub min_image-requires : goal.min_image-requires
min_image-requires c =
    let a = c.args in
    let ok = sizes a.lawful in
    let p = coords-near a.lawful.lattice a.a a.a (omega arith) in
    let q = coords-near a.lawful.lattice a.b a.b (omega arith) in
    rw (c.vertex_coords_4d-p.ensures, c.vertex_coords_4d-q.ensures) (omega (arith, p.t, c.ranges.a), omega (arith, q.t, c.ranges.b), omega (arith, ok.t_most))

pub min_image-requires-2 : goal.min_image-requires-2
min_image-requires-2 c =
    let a = c.args in
    let ok = sizes a.lawful in
    let p = coords-near a.lawful.lattice a.a a.a (omega arith) in
    let q = coords-near a.lawful.lattice a.b a.b (omega arith) in
    rw (c.vertex_coords_4d-p.ensures, c.vertex_coords_4d-q.ensures) (omega (arith, p.x, c.ranges.a), omega (arith, q.x, c.ranges.b), omega (arith, ok.s_most))

pub min_image-requires-3 : goal.min_image-requires-3
min_image-requires-3 c =
    let a = c.args in
    let ok = sizes a.lawful in
    let p = coords-near a.lawful.lattice a.a a.a (omega arith) in
    let q = coords-near a.lawful.lattice a.b a.b (omega arith) in
    rw (c.vertex_coords_4d-p.ensures, c.vertex_coords_4d-q.ensures) (omega (arith, p.y, c.ranges.a), omega (arith, q.y, c.ranges.b), omega (arith, ok.s_most))

pub min_image-requires-4 : goal.min_image-requires-4
min_image-requires-4 c =
    let a = c.args in
    let ok = sizes a.lawful in
    let p = coords-near a.lawful.lattice a.a a.a (omega arith) in
    let q = coords-near a.lawful.lattice a.b a.b (omega arith) in
    rw (c.vertex_coords_4d-p.ensures, c.vertex_coords_4d-q.ensures) (omega (arith, p.z, c.ranges.a), omega (arith, q.z, c.ranges.b), omega (arith, ok.s_most))

pub returns : goal.returns
unfolding delta_of minkowski sq_length_of
returns c = rw (c.min_image-4.ensures, c.min_image-3.ensures, c.min_image-2.ensures, c.min_image.ensures, c.vertex_coords_4d-q.ensures, c.vertex_coords_4d-p.ensures) refl
