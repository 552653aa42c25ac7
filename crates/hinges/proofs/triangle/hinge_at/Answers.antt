-- `hinges::triangle::hinge_at` meets its contract. Assumes nothing.
use Rattle.std.specs.Prelude.{None}
use Prim.Native.Nat.{ℕ}
use mathlib.Core.Path.{◌≡◌, sym, ap, ◌∙◌}
use mathlib.Core.List.{[]}
use native.Mathlib.Omega.{arith}
use lib.ListN.{length, get_or, take}
use lib.Seq.{take_all}
use Rattle.floats.specs.Ops.{zero}
use Rattle.lists.proofs.Rows.{length-rows}
use Rattle.lists.proofs.Folds.{fold_next}
use Rattle.complex.specs.Complex.{holding}
use Rattle.complex.specs.Lent.{pents_of, triangles_of}
use Rattle.lorentzian.specs.declared.dihedral.Dihedral.{Dihedral}
use Rattle.hinges.specs.Hinges.{plus, first, hinge, dihedral_in, faces_of}
use Rattle.hinges.proofs.PentachoronSteps.{pents-wide}
use Rattle.hinges.proofs.TriangleSteps.{holder-lies}
use Rattle.hinges.proofs.OnePass.{hinge-in}
use Rattle.hinges.proofs.triangle.hinge_at.Goals as goal

pub dihedral_in-dihedral-requires : goal.dihedral_in-dihedral-requires
dihedral_in-dihedral-requires c =
    let a = c.args in
    let r = c.requires in
    let h = holder-lies r.0 a.tri.0 r.1 _ c.pents_of_triangle-pent-items.ensures c.loop-pent.pent-index c.loop-pent-test.true in
    (r.0, h.0, r.1, h.1)

pub loop-pent-preserved : goal.loop-pent-preserved
unfolding plus
loop-pent-preserved c =
    let a = c.args in
    let l = c.loop-pent in
    let d = c.dihedral_in-dihedral in
    let own = c.pents_of_triangle-pent-items in
    let f : ℕ → Dihedral = dihedral_in (faces_of a.complex.now) a.sq_lengths.now (get_or (triangles_of a.complex.now) a.tri.0 []) in
    let e = own.ensures in
    rw (← e) (
      rw (c.value-sum.ensures, d.ensures, l.invariant.0, ← e) (sym (fold_next f plus zero own.result.now l.pent-index 0 c.loop-pent-test.true)),
      c.first-kind.ensures ∙ rw (d.ensures, l.invariant.1, ← e) (sym (fold_next f first None own.result.now l.pent-index 0 c.loop-pent-test.true)),
    )

pub returns : goal.returns
unfolding hinge
returns c =
    let a = c.args in
    let r = c.requires in
    let l = c.loop-pent in
    let h = c.pents_of_triangle-pent-items in
    let t = get_or (triangles_of a.complex.now) a.tri.0 [] in
    let e : take l.pent-index (holding (pents_of a.complex.now) t) ≡ holding (pents_of a.complex.now) t = take_all l.pent-index _ (omega (arith, ap length h.ensures)) in
    c.closed.ensures
    ∙ rw (l.invariant.0, l.invariant.1, e) (sym (hinge-in (faces_of a.complex.now) a.sq_lengths.now r.0.simplices (pents-wide r.0.passable) a.tri.0 (rw (length-rows 3 a.complex.now.counts.triangles a.complex.now.triangles.now) r.1)))
