-- `incidence::tris_of_edge` meets its contract. Assumes nothing.
use Rattle.lists.proofs.Rows.{length-rows}
use Rattle.complex.specs.Lent.{triangles_of, edges_of}
use Rattle.incidence.proofs.tris_of_edge.Goals as goal

pub row-requires : goal.row-requires
row-requires c = let x = c.args.complex.now in (triangles_of x, edges_of x, c.requires.0, rw length-rows c.requires.1)

pub returns : goal.returns
returns c = let x = c.args.complex.now in c.row.ensures (triangles_of x) (edges_of x) c.requires.0 (rw length-rows c.requires.1)
