-- `hessian::matrix::add_first_term_in` meets its contract. Assumes nothing.
use Prim.Native.Nat.{ℕ}
use native.Mathlib.Omega.{arith}
use mathlib.Core.List.{List}
use mathlib.Core.Path.{◌≡◌, refl, ap, ◌∙◌}
use lib.Ieee.{Float, nan}
use Rattle.lists.specs.Lists.{gather}
use Rattle.lists.specs.Loops.{scatter}
use Rattle.lists.proofs.Rows.{length-rows}
use Rattle.complex.specs.Lent.{triangles_of, edges_of}
use Rattle.marks.specs.Marks.{marked_below}
use Rattle.hinges.specs.Hinges.{FaceLists, faces_of}
use Rattle.hinges.specs.Local.{local_triangles}
use Rattle.second_derivatives.specs.Parts.{before}
use Rattle.hessian.specs.Parts.{first_at}
use Rattle.hessian.specs.Steps.{ahead, diagonal_events}
use Rattle.hessian.proofs.HessianTerms.{on-free, sums-whole}
use Rattle.hessian.proofs.matrix.add_first_term_in.Goals as goal

pub mark_tris-requires : goal.mark_tris-requires
mark_tris-requires g c = let r = c.requires in (r.0, r.1, omega (arith, r.2))

pub add_tris-requires : goal.add_tris-requires
add_tris-requires g c = let r = c.requires in (omega (arith, r.2, c.mark_tris.auto.marks), omega (arith, r.4), r.6)

pub put_diagonal-requires : goal.put_diagonal-requires
put_diagonal-requires g c = let r = c.requires in ((λ k h. omega (arith, r.1 k h, r.4, c.add_tris.auto.diagonal)), c.add_tris.ensures.others.size ∙ r.6)

pub returns : goal.returns
returns g c =
    let r = c.requires in
    let x = c.args.built.now.complex in
    let F : FaceLists = faces_of x in
    let ls = c.args.built.now.sq_lengths.now in
    let free = c.args.free_edges.now in
    let m = c.mark_tris in
    let f = c.add_tris in
    let p = c.put_diagonal.ensures in
    let marked : marked_below x.counts.triangles m.new.marks ≡ local_triangles F free =
    on-free (triangles_of x) (edges_of x) free x.counts.triangles _ _ m.new.marks refl m.ensures (length-rows 3 x.counts.triangles x.triangles.now) r.2 in
    let sums = sums-whole F ls free _ (λ k h. omega (arith, r.1 k h, r.4)) (λ k h. omega (arith, r.1 k h, r.4, r.5)) _ _ f.new.diagonal marked refl f.ensures.diagonal in
    record {
      lent = p.lent ∙ f.ensures.others.lent;
      entries =
          p.entries
          ∙ ap (λ (events : List (ℕ × Float)). scatter nan ahead events f.new.matrix.entries.now) sums
          ∙ ap (scatter nan ahead (diagonal_events free _)) (f.ensures.others.entries ∙ ap (λ (own : List ℕ). scatter nan before (gather (first_at F ls free) own) c.args.matrix.now.entries.now) marked);
    }
