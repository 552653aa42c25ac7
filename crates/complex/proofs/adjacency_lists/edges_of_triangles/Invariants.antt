-- `complex::adjacency_lists::edges_of_triangles` meets its contract. The loop's invariant: the triangles so far have their edges. Assumes nothing.
use Rattle.complex.specs.Parts.{EdgesOf}
use Rattle.complex.proofs.adjacency_lists.edges_of_triangles.Given as goal

abbrev pub invariant-loop-k : goal.invariant-loop-k
invariant-loop-k l = EdgesOf l.pent_edges l.pent_tris l.tri_edges l.k
