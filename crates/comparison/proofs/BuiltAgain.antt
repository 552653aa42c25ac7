-- The builder and the definition of a built complex: what the builder leaves is built, and a built complex is what the builder makes of its own pentachoron list. Assumes nothing.
use Rattle.refusals.specs.Refusals.{Done, Outcome}
use Rattle.std.specs.Prelude.{Err, Ok}
use Prim.Native.Nat.{ℕ, ◌*◌, ◌≤◌}
use mathlib.Core.Path.{◌≡◌, refl, sym, ap, ◌∙◌, subst}
use mathlib.Core.Bool.{true, false}
use mathlib.Core.List.{List}
use native.Mathlib.Omega.{arith}
use lib.Dec.{eqb, ltb}
use lib.ListN.{length, take, drop, length-append}
use borrow.Author.Tests.{eqb-false, ltb-false}
use Rattle.lists.specs.Rows.{flat, over, begins}
use Rattle.lists.proofs.Tests.{said, passes}
use Rattle.lists.proofs.Rows.{length-rows, length-flat, rows-flat, begins-says, begins-over, over-take, over-begins}
use Rattle.complex.specs.declared.Counts.{Counts}
use Rattle.complex.specs.declared.numbering.Face.{Face}
use Rattle.complex.specs.declared.numbering.Face.TheVariants.{Edge, Triangle, Tet}
use Rattle.complex.specs.Complex.{faces, edges, triangles, tri_to_pents, edge_to_tris, edge_to_pents}
use Rattle.complex.specs.Builder.{sorted_pents, is_short, check_of, built_of, counts_of, Lists, written, over_all, lists_after, rooms_of, Builds}
use Rattle.complex.specs.Check.{pents_in, given_of, begin_all, is_built, holds}
use Rattle.complex.proofs.SortedPents.{sorted-wide-all, length-sorted-all}
use Rattle.complex.proofs.Offences.{or-false, check_done, length-passed}
use Rattle.comparison.proofs.FaceLists.{HasFaces}
use Rattle.comparison.proofs.Rises.{AllRise}
use Rattle.comparison.proofs.BuiltComplex.{IsBuilt, built-says, positive, taken-rises, built-taken, rise-sorted, begin-all, lists_begin}

-- ---- what the builder leaves

module _ (n : ℕ) (given : List ℕ) (before : Lists) (done : check_of n given (rooms_of before) ≡ Done) where
  qs : List (List ℕ)
  qs = sorted_pents given

  c : Counts
  c = counts_of n qs

  after : Lists
  after = over_all (written qs) before

  rows_are : pents_in c after.pents ≡ qs
  unfolding qs c after counts_of over_all written over
  rows_are = rows-flat 5 (sorted_pents given) _ (sorted-wide-all given)

  long : 5 * c.pentachorons ≤ length after.pents
  unfolding qs c after counts_of over_all written over
  long = omega (arith, length-append (flat (sorted_pents given)) (drop (length (flat (sorted_pents given))) before.pents), length-flat 5 (sorted_pents given) (sorted-wide-all given))

  few : c.pentachorons ≤ 8192
  unfolding qs c counts_of
  few = omega (arith, length-sorted-all given, (length-passed (length given) (check_done n given (rooms_of before) done).1).1)

  has : (f : Face) (list old : List ℕ) → list ≡ over (flat (faces f qs)) old → HasFaces f (pents_in c after.pents) (length (faces f qs)) list
  has f list old e =
      subst (λ (ps : List (List ℕ)). HasFaces f ps (length (faces f qs)) list) (sym rows_are)
      (record { count = refl; front = ap (take (length (flat (faces f qs)))) e ∙ over-take (flat (faces f qs)) old (length (flat (faces f qs))) refl })

  left-built : IsBuilt c after
  unfolding qs c after counts_of over_all written holds tri_to_pents edge_to_tris edge_to_pents
  left-built =
      let d = check_done n given (rooms_of before) done in
      let v = or-false (eqb n 0) (ltb 4096 n) d.0 in
      let some : n ≡ 0 → ⊥ = eqb-false _ _ v.0 in
      record {
        some_vertices = positive some;
        few_vertices = ltb-false 4096 n v.1;
        few = few;
        long = long;
        rise = subst (AllRise n) (sym rows_are) (taken-rises n given d.3);
        has_edges = has Edge after.edges before.edges refl;
        has_triangles = has Triangle after.triangles before.triangles refl;
        has_tets = has Tet after.tets before.tets refl;
        tri_to_pents =
            subst (λ (ps : List (List ℕ)). holds ps (triangles ps) after.tri_to_pents after.tri_to_pents_starts ≡ true) (sym rows_are)
            (rw (begins-over _ before.tri_to_pents after.tri_to_pents refl, begins-over _ before.tri_to_pents_starts after.tri_to_pents_starts refl) refl);
        edge_to_tris =
            subst (λ (ps : List (List ℕ)). holds (triangles ps) (edges ps) after.edge_to_tris after.edge_to_tris_starts ≡ true) (sym rows_are)
            (rw (begins-over _ before.edge_to_tris after.edge_to_tris refl, begins-over _ before.edge_to_tris_starts after.edge_to_tris_starts refl) refl);
        edge_to_pents =
            subst (λ (ps : List (List ℕ)). holds ps (edges ps) after.edge_to_pents after.edge_to_pents_starts ≡ true) (sym rows_are)
            (rw (begins-over _ before.edge_to_pents after.edge_to_pents refl, begins-over _ before.edge_to_pents_starts after.edge_to_pents_starts refl) refl);
      }

-- an answer of counts is no refusal
answered-done : (o : Outcome) (n : ℕ) (given : List ℕ) (c : Counts) → Ok c ≡ built_of o n given → (o ≡ Done) × (c ≡ counts_of n (sorted_pents given))
answered-done (Ok u) n given c e = (refl, cc)
answered-done (Err r) n given c e = absurd (let z : ◌≡◌ {A = ℕ} 0 1 = cc in omega arith)

-- what a builder that answers with counts has answered and left
pub builder-left : (n : ℕ) (given : List ℕ) (before after : Lists) (c : Counts) → Builds n given before (Ok c) after
    → (check_of n given (rooms_of before) ≡ Done) × (c ≡ counts_of n (sorted_pents given)) × (after ≡ over_all (written (sorted_pents given)) before)
builder-left n given before _ c b =
    let d = answered-done (check_of n given (rooms_of before)) n given c b.answered in
    (d.0, d.1, b.left ∙ ap (λ (o : Outcome). lists_after o given before) d.0)

-- what the builder answers and leaves is built
pub builder-built : (n : ℕ) (given : List ℕ) (before after : Lists) (c : Counts) → Builds n given before (Ok c) after → is_built c after ≡ true
unfolding qs c after
builder-built n given before after c b =
    let d = builder-left n given before after c b in
    rw (d.1, d.2) (passes (built-says (counts_of n (sorted_pents given)) (over_all (written (sorted_pents given)) before)) (left-built n given before d.0))

-- ---- a built complex, built again

-- lists that begin with what is written are the same when it is written again
again : (new l : Lists) → begin_all new l ≡ true → over_all new l ≡ l
unfolding over_all
again new l h =
    let b = begin-all new l h in
    λ i. record {
      pents = same new.pents l.pents b.pents i;
      edges = same new.edges l.edges b.edges i;
      triangles = same new.triangles l.triangles b.triangles i;
      tets = same new.tets l.tets b.tets i;
      tri_to_pents = same new.tri_to_pents l.tri_to_pents b.tri_to_pents i;
      tri_to_pents_starts = same new.tri_to_pents_starts l.tri_to_pents_starts b.tri_to_pents_starts i;
      edge_to_tris = same new.edge_to_tris l.edge_to_tris b.edge_to_tris i;
      edge_to_tris_starts = same new.edge_to_tris_starts l.edge_to_tris_starts b.edge_to_tris_starts i;
      edge_to_pents = same new.edge_to_pents l.edge_to_pents b.edge_to_pents i;
      edge_to_pents_starts = same new.edge_to_pents_starts l.edge_to_pents_starts b.edge_to_pents_starts i;
    }
  where
    same : (new old : List ℕ) → begins new old ≡ true → over new old ≡ old
    same new old e = over-begins new old (said (begins-says new old) e)

-- a built complex with room is what the builder answers and leaves for its own pentachoron list
pub built-builds : (c : Counts) (l : Lists) → is_built c l ≡ true → is_short c.pentachorons (rooms_of l) ≡ false → Builds c.vertices (given_of c l) l (Ok c) l
unfolding counts_of
built-builds c l h room =
    let b = said (built-says c l) h in
    let done = built-taken c l b (rooms_of l) room in
    let sorted = rise-sorted c l b.long b.rise in
    record {
      answered = rw done (ap Ok (rw sorted (λ i. record { vertices = c.vertices; pentachorons = sym (length-rows 5 c.pentachorons l.pents) i; edges = b.has_edges.count i; triangles = b.has_triangles.count i; tets = b.has_tets.count i })));
      left = rw done (rw sorted (sym (again (written (pents_in c l.pents)) l (lists_begin c l b))));
    }
