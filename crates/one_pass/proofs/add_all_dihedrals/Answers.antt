-- `one_pass::add_all_dihedrals` meets its contract. Assumes nothing.
use Rattle.std.proofs.Common.{rules}
use Prim.Native.Nat.{◌<◌}
use mathlib.Core.Path.{◌≡◌, ap, ◌∙◌}
use mathlib.Core.List.{[]}
use native.Mathlib.Omega.{arith}
use lib.ListN.{length, get_or}
use lib.Seq.{take_all}
use lib.Ieee.{nan}
use Rattle.lists.specs.Lists.{gather}
use Rattle.lists.specs.Loops.{scatter}
use Rattle.lists.proofs.Rows.{length-rows}
use Rattle.complex.specs.Lent.{pents_of}
use Rattle.lorentzian.specs.Dihedral.{pairs}
use Rattle.hinges.specs.Hinges.{FaceLists, plus, dihedral_at, dihedrals, pass_dihedrals, lengths_at, faces_of}
use Rattle.hinges.proofs.PentachoronSteps.{pent-five, own-edges, own-triangles}
use Rattle.one_pass.specs.Pass.{byte_of_first, ten_events}
use Rattle.one_pass.proofs.PassSteps.{ten_events_lem, pass-turn}
use Rattle.one_pass.proofs.add_all_dihedrals.Invariants.{before}
use Rattle.one_pass.proofs.add_all_dihedrals.Goals as goal

pub pent_sq_lengths-s-requires : goal.pent_sq_lengths-s-requires
pent_sq_lengths-s-requires c = own-edges c.requires.0 c.loop-p.p c.loop-p-test.true c.pent_edge_indices-own.result.now c.pent_edge_indices-own.ensures

pub add_ten-requires : goal.add_ten-requires
add_ten-requires c =
    let r = c.requires in
    let l = c.loop-p in
    let o = own-triangles r.0 l.p c.loop-p-test.true c.pent_tri_indices-tris.result.now c.pent_tri_indices-tris.ensures in
    (o.0, o.1 (length l.sums) (omega arith), o.1 (length l.kinds) (omega arith))

pub loop-p-preserved : goal.loop-p-preserved
loop-p-preserved c =
    let a = c.args in
    let l = c.loop-p in
    let f = c.add_ten in
    let s = c.pent_sq_lengths-s in
    let d = c.ten_dihedrals-dihedrals in
    let tris = c.pent_tri_indices-tris in
    let F : FaceLists = faces_of a.complex.now in
    let h = c.loop-p-test.true in
    let in_list : l.p < length (pents_of a.complex.now) = rw (length-rows 5 a.complex.now.counts.pentachorons a.complex.now.pents.now) h in
    let ten : d.result ≡ pairs (dihedral_at s.result) = search rules in
    let e : ten_events tris.result.now d.result ≡ dihedrals F a.sq_lengths.now (get_or (pents_of a.complex.now) l.p []) =
    ten_events_lem F a.sq_lengths.now s.result _ tris.result.now d.result (pent-five c.requires.0 l.p h) tris.ensures (s.ensures ∙ ap (lengths_at a.sq_lengths.now) c.pent_edge_indices-own.ensures) ten in (
      pass-turn nan plus F a.sq_lengths.now l.p (ten_events tris.result.now d.result) a.sums.now l.sums f.new.sums in_list e l.invariant.0 f.ensures.0,
      pass-turn 0 byte_of_first F a.sq_lengths.now l.p (ten_events tris.result.now d.result) a.kinds.now l.kinds f.new.kinds in_list e l.invariant.1 f.ensures.1,
    )

pub returns : goal.returns
unfolding pass_dihedrals
returns c =
    let a = c.args in
    let l = c.loop-p in
    let F : FaceLists = faces_of a.complex.now in
    let e : before F a.sq_lengths.now l.p ≡ pass_dihedrals F a.sq_lengths.now = ap (gather (dihedrals F a.sq_lengths.now)) (take_all l.p F.pents (omega (arith, length-rows 5 a.complex.now.counts.pentachorons a.complex.now.pents.now))) in
    (l.invariant.0 ∙ ap (λ es. scatter nan plus es a.sums.now) e, l.invariant.1 ∙ ap (λ es. scatter 0 byte_of_first es a.kinds.now) e)
