-- `hessian::matrix::add_second_term` meets its contract. Assumes nothing.
use mathlib.Core.Path.{refl}
use Rattle.lists.proofs.Rows.{length-rows}
use Rattle.complex.specs.Lent.{pents_of, edges_of}
use Rattle.hessian.proofs.Again.{measured-of}
use Rattle.hessian.proofs.HessianTerms.{on-free}
use Rattle.hessian.proofs.matrix.add_second_term.Goals as goal

pub returns : goal.returns
returns c =
    let x = c.args.built.now.complex in
    let m = c.mark_pents in
    rw (← on-free (pents_of x) (edges_of x) c.args.free_edges.now x.counts.pentachorons 8192 _ m.new.marks refl m.ensures (length-rows 5 x.counts.pentachorons x.pents.now) (measured-of c.args.built.now).passable.few) c.add_pents.ensures
