-- `lorentzian_regge::action::sum_up` meets its contract. Assumes nothing.
use Prim.Native.Nat.{ℕ}
use mathlib.Core.Path.{◌≡◌, refl, sym, ap, ◌∙◌}
use mathlib.Core.List.{foldl}
use native.Mathlib.Omega.{arith}
use lib.ListN.{length}
use Rattle.floats.specs.Ops.{zero}
use Rattle.lists.specs.Lists.{upto}
use Rattle.lists.proofs.Rows.{length-rows}
use Rattle.lists.proofs.Folds.{fold-upto}
use Rattle.incidence.specs.Incidence.{edge_list}
use Rattle.hinges.specs.Hinges.{FaceLists, lengths_at, faces_of}
use Rattle.hinges.specs.Action.{tri_lengths, action_of}
use Rattle.hinges.proofs.TriangleSteps.{edges-below}
use Rattle.calls.proofs.BuiltCalls.{measured}
use Rattle.lorentzian_regge.proofs.action.sum_up.Invariants.{adds}
use Rattle.lorentzian_regge.proofs.action.sum_up.Goals as goal

pub overflow_cast-t-end : goal.overflow_cast-t-end
overflow_cast-t-end c = omega (arith, (measured c.args.built.now (length c.args.sq_lengths.now) c.requires.0).few)

pub loop-t-init : goal.loop-t-init
unfolding upto
loop-t-init c = refl

pub tri_edge_indices-own-requires : goal.tri_edge_indices-own-requires
tri_edge_indices-own-requires c =
    let m = measured c.args.built.now (length c.args.sq_lengths.now) c.requires.0 in
    (m.simplices, m.lie, m.holders, m.passable.edge_numbers, m.passable.tri_numbers, c.loop-t-test.true)

pub tri_sq_lengths-requires : goal.tri_sq_lengths-requires
tri_sq_lengths-requires c =
    edges-below (measured c.args.built.now (length c.args.sq_lengths.now) c.requires.0) c.loop-t.t c.loop-t-test.true (edge_list c.tri_edge_indices-own.result) c.tri_edge_indices-own.ensures (length c.args.sq_lengths.now) (omega (arith, c.requires.0))

pub loop-t-preserved : goal.loop-t-preserved
unfolding tri_lengths
loop-t-preserved c =
    let a = c.args in
    let F : FaceLists = faces_of a.built.now.complex in
    let s : c.tri_sq_lengths.result ≡ tri_lengths F a.sq_lengths.now c.loop-t.t = c.tri_sq_lengths.ensures ∙ ap (lengths_at a.sq_lengths.now) c.tri_edge_indices-own.ensures in
    rw (c.abs_area-area.ensures, s, c.loop-t.invariant) (sym (fold-upto (adds F a.sq_lengths.now a.deficits.now) zero c.loop-t.t))

pub returns : goal.returns
unfolding action_of
returns c =
    let a = c.args in
    let F : FaceLists = faces_of a.built.now.complex in
    let e : c.loop-t.t ≡ length F.triangles = omega (arith, c.loop-t-test.false, length-rows 3 a.built.now.complex.counts.triangles a.built.now.complex.triangles.now) in
    c.loop-t.invariant ∙ ap (λ (n : ℕ). foldl (adds F a.sq_lengths.now a.deficits.now) zero (upto n)) e
