-- `incidence::pents_of_triangle` meets its contract. Assumes nothing.
use Rattle.lists.proofs.Rows.{length-rows}
use Rattle.complex.specs.Lent.{pents_of, triangles_of}
use Rattle.incidence.proofs.pents_of_triangle.Goals as goal

pub row-requires : goal.row-requires
row-requires c = let x = c.args.complex.now in (pents_of x, triangles_of x, c.requires.0, rw length-rows c.requires.1)

pub returns : goal.returns
returns c = let x = c.args.complex.now in c.row.ensures (pents_of x) (triangles_of x) c.requires.0 (rw length-rows c.requires.1)
