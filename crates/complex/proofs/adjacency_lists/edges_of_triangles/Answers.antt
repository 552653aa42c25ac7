-- `complex::adjacency_lists::edges_of_triangles` meets its contract. Assumes nothing.
use lib.ListN.{length}
use native.Mathlib.Omega.{arith}
use Rattle.complex.proofs.TriangleEdges.{edges-turn}
use Rattle.complex.proofs.adjacency_lists.edges_of_triangles.Goals as goal

pub loop-k-preserved : goal.loop-k-preserved
loop-k-preserved c =
    let a = c.args in
    let l = c.loop-k in
    rw (c.edge_at.ensures, c.edge_at-in-loop-k.ensures, c.edge_at-in-loop-k-2.ensures)
    (edges-turn a.pent_edges.now a.pent_tris.now l.tri_edges l.k (length a.tri_edges.now) c.requires (omega arith) (omega arith) l.invariant)
