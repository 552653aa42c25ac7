-- `lorentzian_regge::gradient::add_all_contributions` meets its contract. Assumes nothing.
use mathlib.Core.Path.{◌≡◌, refl, ap, ◌∙◌}
use native.Mathlib.Omega.{arith}
use lib.ListN.{length, get_or}
use lib.Ieee.{nan}
use Rattle.floats.specs.Ops.{◌⊕◌}
use Rattle.lists.specs.Lists.{gather, upto}
use Rattle.lists.specs.Loops.{scatter}
use Rattle.lists.proofs.Loops.{scatter-turn}
use Rattle.incidence.specs.Incidence.{edge_list}
use Rattle.hinges.specs.Hinges.{FaceLists, lengths_at, faces_of}
use Rattle.hinges.specs.Action.{edges_at, tri_lengths, contributions_of, contributions}
use Rattle.hinges.proofs.TriangleSteps.{edges-below}
use Rattle.calls.proofs.BuiltCalls.{measured}
use Rattle.lorentzian_regge.proofs.gradient.add_all_contributions.Goals as goal

pub overflow_cast-t-end : goal.overflow_cast-t-end
overflow_cast-t-end c = omega (arith, (measured c.args.built.now (length c.args.sq_lengths.now) c.requires.0).few)

pub loop-t-init : goal.loop-t-init
unfolding upto gather scatter
loop-t-init c = refl

pub tri_edge_indices-own-requires : goal.tri_edge_indices-own-requires
tri_edge_indices-own-requires c =
    let m = measured c.args.built.now (length c.args.sq_lengths.now) c.requires.0 in
    (m.simplices, m.lie, m.holders, m.passable.edge_numbers, m.passable.tri_numbers, c.loop-t-test.true)

pub tri_sq_lengths-s-requires : goal.tri_sq_lengths-s-requires
tri_sq_lengths-s-requires c =
    edges-below (measured c.args.built.now (length c.args.sq_lengths.now) c.requires.0) c.loop-t.t c.loop-t-test.true (edge_list c.tri_edge_indices-own.result) c.tri_edge_indices-own.ensures (length c.args.sq_lengths.now) (omega (arith, c.requires.0))

pub add_contributions-requires : goal.add_contributions-requires
add_contributions-requires c =
    edges-below (measured c.args.built.now (length c.args.sq_lengths.now) c.requires.0) c.loop-t.t c.loop-t-test.true (edge_list c.tri_edge_indices-own.result) c.tri_edge_indices-own.ensures (length c.loop-t.grad) (omega (arith, c.requires.2, c.loop-t.auto.grad))

pub loop-t-preserved : goal.loop-t-preserved
unfolding contributions tri_lengths
loop-t-preserved c =
    let a = c.args in
    let l = c.loop-t in
    let own = c.tri_edge_indices-own in
    let s = c.tri_sq_lengths-s in
    let F : FaceLists = faces_of a.built.now.complex in
    let ds = a.deficits.now in
    let e : contributions_of (edge_list own.result) s.result (get_or ds l.t nan) ≡ contributions F a.sq_lengths.now ds l.t =
    ap (λ es. contributions_of es s.result (get_or ds l.t nan)) own.ensures ∙ ap (λ u. contributions_of (edges_at F l.t) u (get_or ds l.t nan)) (s.ensures ∙ ap (lengths_at a.sq_lengths.now) own.ensures) in
    scatter-turn nan ◌⊕◌ (contributions F a.sq_lengths.now ds) l.t (contributions_of (edge_list own.result) s.result (get_or ds l.t nan)) a.grad.now l.grad c.add_contributions.new.grad e l.invariant c.add_contributions.ensures

pub returns : goal.returns
returns c =
    let e : c.loop-t.t ≡ c.args.built.now.complex.counts.triangles = omega (arith, c.loop-t-test.false) in
    rw e at c.loop-t.invariant
