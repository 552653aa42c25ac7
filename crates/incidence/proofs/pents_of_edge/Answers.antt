-- `incidence::pents_of_edge` meets its contract. Assumes nothing.
use Rattle.lists.proofs.Rows.{length-rows}
use Rattle.complex.specs.Lent.{pents_of, edges_of}
use Rattle.incidence.proofs.pents_of_edge.Goals as goal

pub row-requires : goal.row-requires
row-requires c = let x = c.args.complex.now in (pents_of x, edges_of x, c.requires.0, rw length-rows c.requires.1)

pub returns : goal.returns
returns c = let x = c.args.complex.now in c.row.ensures (pents_of x) (edges_of x) c.requires.0 (rw length-rows c.requires.1)
