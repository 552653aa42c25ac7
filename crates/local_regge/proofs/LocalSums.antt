-- Over a built complex the local answers are those of the Rust: hinges from all pentachorons of a triangle, entries summed over the triangles on free edges alone. Assumes nothing.
use Prim.Native.Nat.{ℕ, ◌<◌}
use mathlib.Core.Bool.{true}
use mathlib.Core.List.{List, map}
use mathlib.Core.Path.{◌≡◌, sym, ap, ◌∙◌, subst}
use lib.Ieee.{Float}
use lib.ListN.{length, get_or}
use Rattle.lists.specs.Groups.{Below}
use Rattle.lists.proofs.Tests.{said}
use Rattle.lists.proofs.Rows.{length-rows}
use Rattle.complex.specs.declared.Counts.{Counts}
use Rattle.complex.specs.Complex.{edges, tri_to_pents}
use Rattle.complex.specs.Builder.{Lists}
use Rattle.complex.specs.Check.{pents_in, is_built}
use Rattle.comparison.proofs.BuiltComplex.{built-says, built-sorted, built-wide, built-edges}
use Rattle.hinges.specs.Hinges.{FaceLists, built_faces, faces_in, hinge_at}
use Rattle.hinges.specs.Local.{local_triangles, local_hinges, local_gradient, summed_gradient}
use Rattle.hinges.proofs.LocalEntries.{local-hinge, summed-gradient}
use Rattle.calls.proofs.BuiltCalls.{built-faces}

module _ (c : Counts) (l : Lists) (ls : List Float) (free : List ℕ) (h : is_built c l ≡ true) where
  abbrev ps : List (List ℕ)
  ps = pents_in c l.pents

  -- each local hinge, worked out from all pentachorons of its triangle, is the global one
  pub built_local-hinges : local_hinges (faces_in c l.pents l.edges l.triangles) ls free ≡ map (hinge_at (built_faces ps) (tri_to_pents ps) ls) (local_triangles (built_faces ps) free)
  built_local-hinges =
      let b = said (built-says c l) h in
      ap (λ (F : FaceLists). local_hinges F ls free) (built-faces c l b) ∙ sym (local-hinge ps ls (built-sorted c l b) (built-wide c l b) free)

  -- the local gradient as the Rust sums it is the global entry of each free edge, bit for bit
  pub built_local-gradient : Below free c.edges → local_gradient (faces_in c l.pents l.edges l.triangles) ls free ≡ summed_gradient (built_faces ps) (tri_to_pents ps) ls free
  built_local-gradient below =
      let b = said (built-says c l) h in
      let count : c.edges ≡ length (edges ps) = sym (length-rows 2 c.edges l.edges) ∙ ap length (built-edges c l b) in
      ap (λ (F : FaceLists). local_gradient F ls free) (built-faces c l b)
      ∙ sym (summed-gradient ps ls (built-sorted c l b) (built-wide c l b) free (λ k i. subst (λ (n : ℕ). get_or free k 0 < n) count (below k i)))
