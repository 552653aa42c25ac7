-- `complex::adjacency_lists::adjacency` meets its contract. Assumes nothing.
use lib.ListN.{length}
use Rattle.complex.proofs.TriangleEdges.{can-group-triangles}
use Rattle.complex.proofs.adjacency_lists.adjacency.Goals as goal

pub group-requires-2 : goal.group-requires-2
group-requires-2 c =
    let a = c.args in
    let p = c.requires in
    let f = c.edges_of_triangles in
    can-group-triangles a.numbers.now.pent_edges.now a.numbers.now.pent_tris.now f.new.tri_edges a.faces.edges a.faces.triangles (length a.tri_edges.now) _ p f.auto.tri_edges f.ensures
    (length a.lists.now.edge_to_tris_items.now) (length a.lists.now.edge_to_tris_starts.now) p.room_et p.room_et_starts
