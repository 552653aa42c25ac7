-- `hessian::matrix::add_tri` meets its contract. Assumes nothing.
use mathlib.Core.Path.{◌≡◌, ap, ◌∙◌}
use native.Mathlib.Omega.{arith}
use lib.ListN.{length}
use Rattle.incidence.specs.Incidence.{edge_list}
use Rattle.hinges.specs.Hinges.{FaceLists, faces_of}
use Rattle.hinges.proofs.TriangleSteps.{edges-below}
use Rattle.second_derivatives.specs.Parts.{places_in}
use Rattle.hessian.proofs.Again.{measured-of}
use Rattle.hessian.proofs.HessianLoops.{diagonal-event, first-event}
use Rattle.hessian.proofs.matrix.add_tri.Goals as goal

pub tri_edge_indices-own-requires : goal.tri_edge_indices-own-requires
tri_edge_indices-own-requires c = let m = measured-of c.args.built.now in search (m)

pub hinge_at-hinge-requires : goal.hinge_at-hinge-requires
hinge_at-hinge-requires c = (measured-of c.args.built.now, c.requires.0)

pub tri_sq_lengths-s-requires : goal.tri_sq_lengths-s-requires
tri_sq_lengths-s-requires c =
    let a = c.args in
    edges-below (measured-of a.built.now) a.tri.0 c.requires.0 (edge_list c.tri_edge_indices-own.result) c.tri_edge_indices-own.ensures (length a.built.now.sq_lengths.now) (omega (arith, (measured-of a.built.now).passable.lengths))

pub add_first-requires : goal.add_first-requires
add_first-requires c =
    let a = c.args in
    let r = c.requires in
    edges-below (measured-of a.built.now) a.tri.0 r.0 (edge_list c.tri_edge_indices-own.result) c.tri_edge_indices-own.ensures (length a.diagonal.now) r.1

pub returns : goal.returns
returns c =
    let a = c.args in
    let F : FaceLists = faces_of a.built.now.complex in
    let o = c.tri_edge_indices-own in
    let h = c.hinge_at-hinge in
    let s = c.tri_sq_lengths-s in
    let p = c.places_in-at in
    let ls = a.built.now.sq_lengths.now in
    let free = a.free_edges.now in
    let n = a.matrix.now.n in
    let at : p.result ≡ places_in free (edge_list o.result) = p.ensures ∙ ap (λ es. places_in free es) c.numbers.ensures in
    record {
      diagonal = rw (← diagonal-event F ls free (edge_list o.result) p.result n c.requires.2 s.result a.tri.0 at s.ensures h.result o.ensures h.ensures) c.add_first.ensures.diagonal;
      others = rw (← first-event F ls free (edge_list o.result) p.result n c.requires.2 s.result a.tri.0 at s.ensures h.result o.ensures h.ensures) c.add_first.ensures.others;
    }
