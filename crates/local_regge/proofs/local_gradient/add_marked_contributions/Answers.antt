-- `local_regge::local_gradient::add_marked_contributions` meets its contract. Assumes nothing.
use Prim.Native.Nat.{◌+◌, ◌<◌}
use mathlib.Core.Path.{◌≡◌, sym, ap, ◌∙◌}
use native.Mathlib.Omega.{arith}
use lib.Ieee.{nan}
use lib.ListN.{length, take}
use lib.Seq.{length-take-le}
use Rattle.floats.specs.Ops.{◌⊕◌}
use Rattle.lists.specs.Lists.{gather}
use Rattle.lists.specs.Loops.{scatter}
use Rattle.lists.proofs.Rows.{length-rows}
use Rattle.incidence.specs.Incidence.{edge_list}
use Rattle.marks.proofs.Marking.{next-stands, next-on, next-first, scatter-marked, walk-ended}
use Rattle.hinges.specs.declared.hinge.Hinge.{Hinge}
use Rattle.hinges.specs.Hinges.{FaceLists, hinges, lengths_at, deficits_of, faces_of}
use Rattle.hinges.specs.Action.{edges_at, tri_lengths, contributions_of, contributions}
use Rattle.hinges.proofs.TriangleSteps.{edges-below}
use Rattle.calls.proofs.BuiltCalls.{measured}
use Rattle.local_regge.proofs.LocalSteps.{deficit-at}
use Rattle.local_regge.proofs.local_gradient.add_marked_contributions.Goals as goal
use Rattle.local_regge.proofs.local_gradient.add_marked_contributions.Goals.{In-loop-t}

-- the triangle of a turn is one of the complex
below : (c : In-loop-t) → c.loop-t.t < c.args.built.now.complex.counts.triangles
below c = omega (arith, c.loop-t-test.true, length-take-le c.args.built.now.complex.counts.triangles c.args.marks.now c.requires.1)

pub overflow_cast-tri : goal.overflow_cast-tri
overflow_cast-tri c =
    omega (arith, (measured c.args.built.now (length c.args.sq_lengths.now) c.requires.0).few, below (goal.at.overflow_cast-tri c).In-loop-t)

pub loop-t-init : goal.loop-t-init
unfolding gather scatter
loop-t-init c =
    let a = c.args in
    let F = faces_of a.built.now.complex in
    let front = take a.built.now.complex.counts.triangles a.marks.now in
    let first = c.next_marked-t in (
      next-stands front 0 first.result (omega arith) first.ensures,
      ap (λ own. scatter nan ◌⊕◌ (gather (contributions F a.sq_lengths.now (deficits_of (hinges F a.sq_lengths.now))) own) a.entries.now) (sym (next-first front first.result first.ensures)),
    )

pub tri_edge_indices-own-requires : goal.tri_edge_indices-own-requires
tri_edge_indices-own-requires c =
    let m = measured c.args.built.now (length c.args.sq_lengths.now) c.requires.0 in
    (m.simplices, m.lie, m.holders, m.passable.edge_numbers, m.passable.tri_numbers, (below (goal.at.tri_edge_indices-own-requires c).In-loop-t))

pub tri_sq_lengths-s-requires : goal.tri_sq_lengths-s-requires
tri_sq_lengths-s-requires c =
    edges-below (measured c.args.built.now (length c.args.sq_lengths.now) c.requires.0) c.loop-t.t (below (goal.at.tri_sq_lengths-s-requires c).In-loop-t) (edge_list c.tri_edge_indices-own.result) c.tri_edge_indices-own.ensures (length c.args.sq_lengths.now) (omega (arith, c.requires.0))

pub hinge_at-hinge-requires : goal.hinge_at-hinge-requires
hinge_at-hinge-requires c = (measured c.args.built.now (length c.args.sq_lengths.now) c.requires.0, (below (goal.at.hinge_at-hinge-requires c).In-loop-t))

pub add_contributions-requires : goal.add_contributions-requires
add_contributions-requires c =
    edges-below (measured c.args.built.now (length c.args.sq_lengths.now) c.requires.0) c.loop-t.t (below (goal.at.add_contributions-requires c).In-loop-t) (edge_list c.tri_edge_indices-own.result) c.tri_edge_indices-own.ensures (length c.loop-t.entries) (omega (arith, c.requires.2, c.loop-t.auto.entries))

pub loop-t-smaller : goal.loop-t-smaller
loop-t-smaller c =
    let front = take c.args.built.now.complex.counts.triangles c.args.marks.now in
    let next = c.next_marked-t-in-loop-t in
    omega (arith, next-on front (c.loop-t.t + 1) next.result (omega (arith, c.loop-t-test.true)) next.ensures)

pub loop-t-preserved : goal.loop-t-preserved
unfolding contributions tri_lengths
loop-t-preserved c =
    let a = c.args in
    let l = c.loop-t in
    let h = c.loop-t-test.true in
    let F : FaceLists = faces_of a.built.now.complex in
    let ls = a.sq_lengths.now in
    let ds = deficits_of (hinges F ls) in
    let n = a.built.now.complex.counts.triangles in
    let front = take n a.marks.now in
    let next = c.next_marked-t-in-loop-t in
    let own = c.tri_edge_indices-own in
    let s = c.tri_sq_lengths-s in
    let g = c.hinge_at-hinge in
    let e : contributions_of (edge_list own.result) s.result g.result.deficit ≡ contributions F ls ds l.t =
    ap (λ es. contributions_of es s.result g.result.deficit) own.ensures
    ∙ ap (λ r. contributions_of (edges_at F l.t) r g.result.deficit) (s.ensures ∙ ap (lengths_at ls) own.ensures)
    ∙ ap (contributions_of (edges_at F l.t) (tri_lengths F ls l.t)) (ap (λ (u : Hinge). u.deficit) g.ensures ∙ deficit-at F ls l.t (omega (arith, below (goal.at.loop-t-preserved c).In-loop-t, length-rows 3 n a.built.now.complex.triangles.now))) in (
      next-stands front (l.t + 1) next.result (omega (arith, h)) next.ensures,
      scatter-marked nan ◌⊕◌ (contributions F ls ds) front l.t l.invariant.0 h a.entries.now l.entries l.invariant.1 _ e _ c.add_contributions.ensures next.result next.ensures,
    )

pub returns : goal.returns
returns c =
    let l = c.loop-t in
    let own = walk-ended c.args.marks.now c.args.built.now.complex.counts.triangles l.t c.requires.1 l.invariant.0 (omega (arith, c.loop-t-test.false)) in
    rw own at l.invariant.1
