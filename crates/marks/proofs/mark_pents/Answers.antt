-- `marks::mark_pents` meets its contract. Assumes nothing.
use Rattle.lists.proofs.Rows.{length-rows}
use Rattle.complex.specs.Lent.{pents_of, edges_of}
use Rattle.marks.proofs.mark_pents.Goals as goal

pub mark_met-requires : goal.mark_met-requires
mark_met-requires c =
    let r = c.requires in
    let x = c.args.complex.now in
    (pents_of x, edges_of x, record { holders = r.0; below = rw length-rows r.1; marks = rw length-rows r.2 })

pub returns : goal.returns
returns c =
    let r = c.requires in
    let x = c.args.complex.now in
    c.mark_met.ensures (pents_of x) (edges_of x) (record { holders = r.0; below = rw length-rows r.1; marks = rw length-rows r.2 })
