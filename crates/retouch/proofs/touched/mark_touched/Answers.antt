-- `retouch::touched::mark_touched` meets its contract. Assumes nothing.
use mathlib.Core.List.{[]}
use mathlib.Core.Path.{refl, sym, ap, ◌∙◌}
use native.Mathlib.Omega.{arith}
use lib.ListN.{length, get_or, take}
use lib.Seq.{take_all}
use Rattle.lists.specs.Lists.{gather}
use Rattle.lists.proofs.Rows.{length-rows}
use Rattle.complex.specs.Lent.{pents_of, edges_of}
use Rattle.marks.specs.Marks.{marked}
use Rattle.marks.proofs.Marking.{marked_append, holding-below}
use Rattle.hinges.specs.Hinges.{faces_of}
use Rattle.retouch.specs.Retouch.{around}
use Rattle.retouch.proofs.TouchedSteps.{triangles_of, triangles-next, triangles-below}
use Rattle.retouch.proofs.touched.mark_touched.Goals as goal

pub loop-holder-init : goal.loop-holder-init
unfolding marked gather
loop-holder-init c = (refl, refl)

pub pent_tri_indices-tris-requires : goal.pent_tri_indices-tris-requires
pent_tri_indices-tris-requires c =
    let x = c.args.complex.now in
    let h = c.pents_of_edge-holders in
    (c.requires.1, holding-below (pents_of x) (get_or (edges_of x) c.args.edge.0 []) h.result.now h.ensures x.counts.pentachorons (omega (arith, length-rows 5 x.counts.pentachorons x.pents.now)) _ (omega (arith, c.loop-holder-test.true)))

pub mark_all-requires : goal.mark_all-requires
mark_all-requires c =
    let x = c.args.complex.now in
    let l = c.loop-holder in
    let h = c.pents_of_edge-holders in
    triangles-below x.counts x.pents.now x.triangles.now c.requires.2 c.pent_tri_indices-tris.result.now _ c.pent_tri_indices-tris.ensures
    (holding-below (pents_of x) (get_or (edges_of x) c.args.edge.0 []) h.result.now h.ensures x.counts.pentachorons (omega (arith, length-rows 5 x.counts.pentachorons x.pents.now)) _ (omega (arith, c.loop-holder-test.true)))
    (length l.marks) (omega (arith, c.requires.4, l.invariant.1))

pub loop-holder-preserved : goal.loop-holder-preserved
loop-holder-preserved c =
    let a = c.args in
    let l = c.loop-holder in
    let f = c.mark_all in
    let own = c.pents_of_edge-holders.result.now in
    let F = faces_of a.complex.now in (
      f.ensures
          ∙ rw (c.pent_tri_indices-tris.ensures, l.invariant.0) (sym (marked_append (triangles_of F (take l.holder-index own)) _ a.marks.now))
          ∙ ap (λ xs. marked xs a.marks.now) (sym (triangles-next F own l.holder-index c.loop-holder-test.true)),
      f.auto.marks ∙ l.invariant.1,
    )

pub returns : goal.returns
unfolding around
returns c =
    let l = c.loop-holder in
    let a = c.args in
    let h = c.pents_of_edge-holders in
    let F = faces_of a.complex.now in
    l.invariant.0 ∙ ap (λ xs. marked (triangles_of F xs) a.marks.now) (take_all l.holder-index h.result.now (omega (arith, c.loop-holder-test.false)) ∙ h.ensures)
