-- `comparison::has_all_faces` meets its contract. Assumes nothing.
use mathlib.Core.Path.{refl, sym, ◌∙◌}
use Rattle.complex.specs.declared.numbering.Face.TheVariants.{Edge, Triangle, Tet}
use Rattle.complex.specs.Lent.{lists_of}
use Rattle.lists.proofs.Tests.{not-both}
use Rattle.comparison.specs.CheckParts.{has_all_faces}
use Rattle.comparison.proofs.BuiltComplex.{given-rows}
use Rattle.comparison.proofs.Comparisons.{noting_off, faces-kept, triangles-over}
use Rattle.comparison.proofs.has_all_faces.Goals as goal
use Rattle.comparison.proofs.has_all_faces.Goals.{then-has_faces, else-has_faces}

pub returns-then-has_faces-2 : goal.returns-then-has_faces-2
unfolding has_all_faces
returns-then-has_faces-2 c =
    let x = c.args.complex.now in
    let l = lists_of x in
    let long = c.requires.long in
    let rows = given-rows x.counts l long in
    let tets = faces-kept x.counts l long Tet c.args.pent_tris.now _ c.has_faces.ensures.numbers_after.1 in
    let third = c.has_faces-then-has_faces-2 in
    elim c.if-has_faces.branch [
      | then-has_faces w ↦
          let second = w.has_faces-then-has_faces in
          let yes = sym w.value-is ∙ c.if-has_faces-2.true in record {
            value = rw (sym (rw rows at c.has_faces.ensures.value) ∙ w.if-has_faces.true, sym (rw rows at second.ensures.value) ∙ yes) (rw rows at third.ensures.value);
            noting = record {
              edges = λ t. w.pent_edges-is ∙ (rw rows at second.ensures.numbers_after.0) yes;
              triangles = λ t. triangles-over x.counts l long c.args.pent_tris.now _ _ tets ((rw rows at third.ensures.numbers_after.0) t);
              edges_kept = rw w.pent_edges-is (faces-kept x.counts l long Edge c.args.pent_edges.now _ second.ensures.numbers_after.1);
              triangles_kept = faces-kept x.counts l long Triangle _ _ third.ensures.numbers_after.1 ∙ tets;
            };
          }
      | else-has_faces w ↦ absurd (not-both (sym w.value-is ∙ c.if-has_faces-2.true) w.if-has_faces.false)
    ]

pub returns-else-has_faces-2 : goal.returns-else-has_faces-2
unfolding has_all_faces
returns-else-has_faces-2 c =
    let x = c.args.complex.now in
    let l = lists_of x in
    let long = c.requires.long in
    let rows = given-rows x.counts l long in
    let off = c.if-has_faces-2.false in
    let tets = faces-kept x.counts l long Tet c.args.pent_tris.now _ c.has_faces.ensures.numbers_after.1 in
    elim c.if-has_faces.branch [
      | then-has_faces w ↦
          let second = w.has_faces-then-has_faces in record {
            value = off ∙ sym (rw (sym (rw rows at c.has_faces.ensures.value) ∙ w.if-has_faces.true, sym (rw rows at second.ensures.value) ∙ sym w.value-is ∙ off) refl);
            noting = noting_off off (rw w.pent_edges-is (faces-kept x.counts l long Edge c.args.pent_edges.now _ second.ensures.numbers_after.1)) tets;
          }
      | else-has_faces w ↦ record {
        value = off ∙ sym (rw (sym (rw rows at c.has_faces.ensures.value) ∙ w.if-has_faces.false) refl);
        noting = noting_off off (rw w.pent_edges-is refl) tets;
      }
    ]
