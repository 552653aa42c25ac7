-- The steps of calls with free edges: checks that let a call pass, marks of what lies on free edges. Assumes nothing.
use Rattle.refusals.specs.Refusals.{Done, Outcome}
use Rattle.std.specs.Prelude.{Err, Ok, Result}
use Prim.Native.Nat.{ℕ, ◌≤◌, ◌<◌}
use mathlib.Core.Bool.{Bool, false}
use mathlib.Core.List.{List, map}
use mathlib.Core.Path.{◌≡◌, refl, sym, ap, ◌∙◌, subst}
use native.Mathlib.Omega.{arith}
use lib.Ieee.{Float, nan}
use lib.ListN.{length, get_or, replicate, length-map}
use Rattle.refusals.specs.declared.Refusal.{Refusal}
use Rattle.floats.specs.Ops.{◌⊕◌, zero}
use Rattle.lists.specs.Lists.{gather, Once}
use Rattle.lists.specs.Rows.{over}
use Rattle.lists.specs.Groups.{Below}
use Rattle.lists.specs.Loops.{scatter}
use Rattle.lists.proofs.Tests.{said}
use Rattle.lists.proofs.Elements.{get_or-map}
use Rattle.lists.proofs.Rows.{length-rows}
use Rattle.complex.specs.declared.Counts.{Counts}
use Rattle.complex.specs.declared.Complex.{Complex}
use Rattle.complex.specs.Lent.{lists_of, pents_of, edges_of, triangles_of, IsHolding}
use Rattle.complex.proofs.Offences.{once-of}
use Rattle.comparison.proofs.BuiltComplex.{built-says, built-edge-to-tris, built-edge-to-pents}
use Rattle.lorentzian.specs.declared.dihedral.HingeType.TheVariants.{Spacelike}
use Rattle.marks.specs.Marks.{met, listed, marked, marked_below}
use Rattle.marks.proofs.Marking.{marked-listed}
use Rattle.hinges.specs.Hinges.{FaceLists, faces_of, hinge_of, hinges, hinge_in, deficits_of, kinds_of}
use Rattle.hinges.specs.Action.{contributions}
use Rattle.hinges.specs.Local.{local_triangles, local_hinges, local_gradient}
use Rattle.hinges.specs.Parts.{IsMeasured}
use Rattle.hinges.proofs.OnePass.{length-hinges}
use Rattle.hinges.proofs.LocalEntries.{entries_local}
use Rattle.calls.specs.declared.built.BuiltComplex.{BuiltComplex}
use Rattle.calls.specs.Calls.{lengths_check_of, free_check_of}
use Rattle.calls.proofs.BuiltCalls.{not-large-below, measured, few-edges, lengths-passed, free-passed, lengths-refused, lengths-decided, free-refused, free-decided}
use Rattle.local_regge.specs.LocalCalls.{LocallyTabled}

-- ---- the table

-- a deficit in the list of all is that of its record
pub deficit-at : (F : FaceLists) (ls : List Float) (t : ℕ) → t < length F.triangles → (hinge_in (hinges F ls) t).deficit ≡ get_or (deficits_of (hinges F ls)) t nan
deficit-at F ls t h = sym (get_or-map (λ h. h.deficit) (hinges F ls) t (hinge_of Spacelike nan) nan (omega (arith, length-map (hinges F ls) (λ h. h.deficit), length-hinges F ls (λ h. h.deficit))))

-- ---- the complex

-- of a built complex the triangles on each edge are listed
pub on-triangles : (b : BuiltComplex) → IsHolding (triangles_of b.complex) (edges_of b.complex) b.complex.edge_to_tris
on-triangles b =
    let c = b.complex.counts in
    let l = lists_of b.complex in
    built-edge-to-tris c l (said (built-says c l) b.built_with.built)

-- ---- checks

-- what a call with free edges has where the checks of lengths and of free edges let it pass
pub record Passed (b : BuiltComplex) (free : List ℕ) (n : ℕ) : Type 0 where
  pub lengths : n ≡ b.complex.counts.edges
  pub measured : IsMeasured b.complex b.incidence n
  pub few_edges : b.complex.counts.edges ≤ 81920
  pub below : Below free b.complex.counts.edges
  pub once : Once free
  pub on_triangles : IsHolding (triangles_of b.complex) (edges_of b.complex) b.complex.edge_to_tris
  pub on_pents : IsHolding (pents_of b.complex) (edges_of b.complex) b.complex.edge_to_pents

-- it has them
pub local-passed : (b : BuiltComplex) (free : List ℕ) (n : ℕ) → Done ≡ lengths_check_of b.complex.counts n Done → Done ≡ free_check_of b.complex.counts free Done → Passed b free n
local-passed b free n h k =
    let c = b.complex.counts in
    let l = lists_of b.complex in
    let e = (lengths-passed c n Done (sym h)).0 in
    let f = free-passed c free Done (sym k) in
    let i = said (built-says c l) b.built_with.built in record {
      lengths = e;
      measured = measured b n e;
      few_edges = few-edges b;
      below = not-large-below c.edges free f.0 c.edges (omega arith);
      once = once-of free f.1;
      on_triangles = on-triangles b;
      on_pents = built-edge-to-pents c l i;
    }

module _ (c : Counts) (n : ℕ) (free : List ℕ) (others : Outcome) where
  -- where the check of lengths refuses it does so whatever the others say
  pub first-refused : {r : Refusal} → Err r ≡ lengths_check_of c n Done → lengths_check_of c n (free_check_of c free others) ≡ Err r
  first-refused h = lengths-refused c n (free_check_of c free others) (sym h)

  -- where it lets the call pass and the check of free edges refuses, so does the whole
  pub second-refused : {r : Refusal} → Done ≡ lengths_check_of c n Done → Err r ≡ free_check_of c free Done → lengths_check_of c n (free_check_of c free others) ≡ Err r
  second-refused h k = lengths-decided c n (free_check_of c free others) (sym h) ∙ free-refused c free others (sym k)

  -- where both let it pass the others decide
  pub others-left : Done ≡ lengths_check_of c n Done → Done ≡ free_check_of c free Done → lengths_check_of c n (free_check_of c free others) ≡ others
  others-left h k = lengths-decided c n (free_check_of c free others) (sym h) ∙ free-decided c free others (sym k)

-- ---- marks

-- the marked triangles are those on free edges
pub marks_local : (x : Complex) (free : List ℕ) (m : ℕ) → x.counts.triangles ≤ m → (marks : List Bool) → marks ≡ marked (met (triangles_of x) (edges_of x) free) (replicate m false)
    → marked_below x.counts.triangles marks ≡ local_triangles (faces_of x) free
marks_local x free m h marks e =
    ap (marked_below x.counts.triangles) e
    ∙ marked-listed (met (triangles_of x) (edges_of x) free) x.counts.triangles m h
    ∙ ap (λ (k : ℕ). listed k (met (triangles_of x) (edges_of x) free)) (sym (length-rows 3 x.counts.triangles x.triangles.now))

-- ---- answers

module _ {o : Outcome} {F : FaceLists} {ls : List Float} {free ts : List ℕ} {ds : List Float} {ks : List ℕ} where
  -- a refused call leaves the lists as they were
  pub table-refused : {r : Result ℕ Refusal} {e : Refusal} → o ≡ Err e → r ≡ Err e → LocallyTabled o F ls free ts ds ks r ts ds ks
  table-refused f e = record { answered = rw (f, e) refl; triangles = rw f refl; deficits = rw f refl; kinds = rw f refl }

  -- a call that was let pass has written them
  pub table_done : {n : ℕ} {ts' : List ℕ} {ds' : List Float} {ks' : List ℕ} → o ≡ Done → n ≡ length (local_triangles F free) → ts' ≡ over (local_triangles F free) ts
      → ds' ≡ over (deficits_of (local_hinges F ls free)) ds → ks' ≡ over (kinds_of (local_hinges F ls free)) ks → LocallyTabled o F ls free ts ds ks (Ok n) ts' ds' ks'
  table_done e n t d k = record { answered = rw (e, n) refl; triangles = rw e t; deficits = rw e d; kinds = rw e k }

-- what holds of checks holds of others that say the same
pub table_same : {o u : Outcome} {F : FaceLists} {ls : List Float} {free ts : List ℕ} {ds : List Float} {ks : List ℕ} {r : (Result ℕ Refusal)} {ts' : List ℕ} {ds' : List Float} {ks' : List ℕ}
    → o ≡ u → LocallyTabled o F ls free ts ds ks r ts' ds' ks' → LocallyTabled u F ls free ts ds ks r ts' ds' ks'
table_same {F = F} {ls = ls} {free = free} {ts = ts} {ds = ds} {ks = ks} {r = r} {ts' = ts'} {ds' = ds'} {ks' = ks'} e t = subst (λ (o : Outcome). LocallyTabled o F ls free ts ds ks r ts' ds' ks') e t

-- the gradient's entries that were worked out in scratch with room for m triangles and k edges
pub entries-written : (b : BuiltComplex) (ls : List Float) → length ls ≡ b.complex.counts.edges → (free : List ℕ) → Below free b.complex.counts.edges → (m k : ℕ) → b.complex.counts.triangles ≤ m → b.complex.counts.edges ≤ k
    → (marks : List Bool) → marks ≡ marked (met (triangles_of b.complex) (edges_of b.complex) free) (replicate m false)
    → (entries : List Float) → entries ≡ scatter nan ◌⊕◌ (gather (contributions (faces_of b.complex) ls (deficits_of (hinges (faces_of b.complex) ls))) (marked_below b.complex.counts.triangles marks)) (replicate k zero)
    → (old new : List Float) → new ≡ over (map (λ e. get_or entries e nan) free) old → new ≡ over (local_gradient (faces_of b.complex) ls free) old
entries-written b ls n free below m k tris edges marks at entries e old new w =
    let F = faces_of b.complex in
    let ok = measured b (length ls) n in
    let E : length (edges_of b.complex) ≡ b.complex.counts.edges = length-rows 2 b.complex.counts.edges b.complex.edges.now in
    w
    ∙ ap (λ (xs : List Float). over (map (λ e. get_or xs e nan) free) old) (e ∙ ap (λ (ts : List ℕ). scatter nan ◌⊕◌ (gather (contributions F ls (deficits_of (hinges F ls))) ts) (replicate k zero)) (marks_local b.complex free m tris marks at))
    ∙ ap (λ (xs : List Float). over xs old) (entries_local F ok.edges_found (λ r i. (ok.simplices.triangle r i).1) ls free k (λ i h. omega (arith, below i h)) (omega arith))
