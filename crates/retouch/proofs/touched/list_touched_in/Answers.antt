-- `retouch::touched::list_touched_in` meets its contract. Assumes nothing.
use Prim.Native.Nat.{◌≤◌}
use mathlib.Core.Path.{ap, ◌∙◌}
use native.Mathlib.Omega.{arith}
use lib.ListN.{length}
use lib.Seq.{length-take-le}
use Rattle.lists.specs.Rows.{over}
use Rattle.marks.proofs.Marking.{marked-front, marked-most}
use Rattle.retouch.proofs.TouchedSteps.{marks-touched}
use Rattle.retouch.proofs.touched.list_touched_in.Goals as goal

pub mark_touched-requires : goal.mark_touched-requires
mark_touched-requires g c = let p = c.requires in (p.0, p.1, p.2, p.3, omega (arith, p.4))

pub list_marked-requires : goal.list_marked-requires
list_marked-requires g c =
    let n = c.args.complex.now.counts.triangles in
    let p = c.requires in
    let marks = c.mark_touched.new.marks in
    let room : n ≤ length marks = omega (arith, p.4, c.mark_touched.auto.marks) in
    (omega (arith, length-take-le n marks room, p.4, p.5), rw (marked-front marks n room) (omega (arith, marked-most marks n, p.6)))

pub returns : goal.returns
returns g c =
    let a = c.args in
    let n = a.complex.now.counts.triangles in
    let marks = c.mark_touched.new.marks in
    let room : n ≤ length marks = omega (arith, c.requires.4, c.mark_touched.auto.marks) in
    let m = marked-front marks n room ∙ marks-touched a.complex.now a.edge.0 _ c.requires.4 marks c.mark_touched.ensures in
    (c.count_marked.ensures ∙ ap length m, c.list_marked.ensures ∙ ap (λ xs. over xs a.tris.now) m)
