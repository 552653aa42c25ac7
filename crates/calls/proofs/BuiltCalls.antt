-- What a call over a complex has where its checks let it pass, and what it answers where they don't. Assumes nothing.
use Rattle.refusals.specs.Refusals.{Done, Outcome}
use Rattle.std.specs.Prelude.{Err, Result}
use Rattle.std.specs.Result.{IsErrAnd}
use Rattle.std.proofs.lemmas.Result.{err_from_is_err_and}
use Prim.Native.Nat.{ℕ, ◌*◌, ◌≤◌, ◌<◌}
use mathlib.Core.Bool.{Bool, true, false, not, cond}
use mathlib.Core.List.{List, map, Memᴰ}
use mathlib.Core.Path.{◌≡◌, refl, sym, ap, ◌∙◌, subst}
use native.Mathlib.Omega.{arith}
use lib.Dec.{eqb, ltb}
use lib.Ieee.{Float}
use lib.ListN.{length}
use borrow.Author.Tests.{eqb-true, ltb-true, not-false}
use Rattle.refusals.specs.declared.Refusal.{Refusal}
use Rattle.refusals.specs.declared.Refusal.TheVariants.{ShortRoom, NotBuilt, LengthCount, EdgeTooLarge, RepeatedEdge, BadIndex}
use Rattle.lists.specs.Lists.{upto}
use Rattle.lists.specs.Groups.{Below}
use Rattle.lists.proofs.Tests.{said}
use Rattle.lists.proofs.Elements.{get_or-mem}
use Rattle.lists.proofs.Keys.{firsts-room}
use Rattle.lists.proofs.Rows.{length-rows}
use Rattle.complex.specs.declared.Counts.{Counts}
use Rattle.complex.specs.declared.numbering.Face.{Face}
use Rattle.complex.specs.declared.numbering.Face.TheVariants.{Edge, Triangle}
use Rattle.complex.specs.Complex.{count_of, met_faces, faces, triangles, tri_to_pents}
use Rattle.complex.specs.Builder.{Lists, too_large, repeats}
use Rattle.complex.specs.Check.{pents_in, is_built}
use Rattle.complex.specs.Lent.{lists_of}
use Rattle.complex.proofs.Offences.{cond-done}
use Rattle.complex.proofs.Meetings.{length-met}
use Rattle.complex.proofs.Lying.{faces_has, edge-of-triangle}
use Rattle.complex.proofs.Laws.{not-large}
use Rattle.comparison.proofs.BuiltComplex.{IsBuilt, built-says, built-sorted, built-wide, built-edges, built-triangles, built-tri-to-pents, built_pent-edges, built_pent-tris, built-simplices, built-lie}
use Rattle.hinges.specs.Hinges.{FaceLists, built_faces, faces_in, hinges, hinge_at}
use Rattle.hinges.specs.Parts.{Measured, IsMeasured}
use Rattle.hinges.proofs.OnePass.{built-one_pass}
use Rattle.calls.specs.declared.built.BuiltComplex.{BuiltComplex}
use Rattle.calls.specs.Calls.{BuiltWith, lengths_check_of, free_check_of, built_check_of, room_check_of, triangle_check_of, Filled}

-- ---- a built complex

module _ (c : Counts) (l : Lists) (b : IsBuilt c l) where
  -- no pentachoron has more than ten of a kind
  most : (f : Face) (m : ℕ) → count_of f ≡ 10 → m ≡ length (faces f (pents_in c l.pents)) → m ≤ 81920
  unfolding faces
  most f m ten e =
      let ps = pents_in c l.pents in
      omega (arith, firsts-room (met_faces f ps), length-met f ps (built-wide c l b) ∙ ap (λ (k : ℕ). k * length ps) ten, length-rows 5 c.pentachorons l.pents, b.few)

  pub most-edges : c.edges ≤ 81920
  most-edges = most Edge c.edges refl b.has_edges.count

  most-triangles : c.triangles ≤ 81920
  most-triangles = most Triangle c.triangles refl b.has_triangles.count

-- it has all that the steps ask, where there are as many lengths as edges
pub built-measured : (c : Counts) (l : Lists) (pe pt : List ℕ) (n : ℕ) → BuiltWith c l pe pt → n ≡ c.edges
    → Measured c l.pents l.edges l.triangles l.tri_to_pents l.tri_to_pents_starts pe pt n
built-measured c l pe pt n w e =
    let b = said (built-says c l) w.built in
    let ps = pents_in c l.pents in
    record {
      passable = record {
        few = b.few;
        edge_numbers = built_pent-edges c l b pe w.noted.edges;
        tri_numbers = built_pent-tris c l b pt w.noted.triangles;
        edges_found = λ r s m k. subst (λ (keys : List (List ℕ)). Memᴰ s keys) (sym (built-edges c l b)) (faces_has Edge ps m k);
        triangles_found = λ r s m k. subst (λ (keys : List (List ℕ)). Memᴰ s keys) (sym (built-triangles c l b)) (faces_has Triangle ps m k);
        lengths = e;
      };
      few = most-triangles c l b;
      simplices = built-simplices c l b;
      lie = built-lie c l b;
      holders = built-tri-to-pents c l b;
      edges_found = λ r s m k. subst (λ (keys : List (List ℕ)). Memᴰ s keys) (sym (built-edges c l b)) (edge-of-triangle ps (built-sorted c l b) (subst (λ (ts : List (List ℕ)). Memᴰ r ts) (built-triangles c l b) m) k);
    }

pub measured : (b : BuiltComplex) (n : ℕ) → n ≡ b.complex.counts.edges → IsMeasured b.complex b.incidence n
measured b n e = built-measured b.complex.counts (lists_of b.complex) b.incidence.pent_edges.now b.incidence.pent_tris.now n b.built_with e

-- no more edges than numbers for them
pub few-edges : (b : BuiltComplex) → b.complex.counts.edges ≤ 81920
few-edges b = most-edges b.complex.counts (lists_of b.complex) (said (built-says b.complex.counts (lists_of b.complex)) b.built_with.built)

-- its rows are those of the builder's complex
pub built-faces : (c : Counts) (l : Lists) → IsBuilt c l → faces_in c l.pents l.edges l.triangles ≡ built_faces (pents_in c l.pents)
built-faces c l b = λ i. record { pents = pents_in c l.pents; edges = built-edges c l b i; triangles = built-triangles c l b i }

-- and its table is the one that works each triangle out by itself
pub built-table : (c : Counts) (l : Lists) (ls : List Float) → is_built c l ≡ true
    → hinges (faces_in c l.pents l.edges l.triangles) ls ≡ map (hinge_at (built_faces (pents_in c l.pents)) (tri_to_pents (pents_in c l.pents)) ls) (upto (length (triangles (pents_in c l.pents))))
built-table c l ls h =
    let b = said (built-says c l) h in
    ap (λ (F : FaceLists). hinges F ls) (built-faces c l b) ∙ built-one_pass (pents_in c l.pents) ls (built-sorted c l b) (built-wide c l b)

-- ---- what the other checks say

-- an outcome is not both
pub done-not-refused : {r : Refusal} → Done ≡ Err r → ⊥
done-not-refused e = let z : ◌≡◌ {A = ℕ} 0 1 = cc in omega arith

-- what a `?` returns where a check refuses
pub returned : {T : Type 0} (r : Result T Refusal) (e : Refusal) → IsErrAnd r (λ y. y ≡ e) → r ≡ Err e
returned r e h = let p = err_from_is_err_and r h in p.1 ∙ ap Err p.2

-- a check that refuses does so whatever the checks after it say
pub cond-refused : {r : Refusal} (b : Bool) (e : Refusal) (others : Outcome) → cond b (Err e) Done ≡ Err r → cond b (Err e) others ≡ Err r
cond-refused true e others h = h
cond-refused false e others h = absurd (done-not-refused h)

-- where it lets a call pass, they decide
pub cond-decided : (b : Bool) (e : Refusal) (others : Outcome) → cond b (Err e) Done ≡ Done → cond b (Err e) others ≡ others
cond-decided true e others h = absurd (done-not-refused (sym h))
cond-decided false e others h = refl

pub lengths-passed : (c : Counts) (n : ℕ) (others : Outcome) → lengths_check_of c n others ≡ Done → (n ≡ c.edges) × (others ≡ Done)
unfolding lengths_check_of
lengths-passed c n others h =
    let s = cond-done (not (eqb n c.edges)) LengthCount others h in
    (eqb-true n c.edges (not-false (eqb n c.edges) s.0), s.1)

-- where the check of free edges lets a call pass
pub free-passed : (c : Counts) (free : List ℕ) (others : Outcome) → free_check_of c free others ≡ Done → (too_large c.edges free ≡ false) × (repeats free ≡ false) × (others ≡ Done)
unfolding free_check_of
free-passed c free others h =
    let a = cond-done (too_large c.edges free) EdgeTooLarge _ h in
    let b = cond-done (repeats free) RepeatedEdge others a.1 in
    (a.0, b.0, b.1)

module _ (c : Counts) (n : ℕ) (others : Outcome) where
  pub lengths-refused : {r : Refusal} → lengths_check_of c n Done ≡ Err r → lengths_check_of c n others ≡ Err r
  unfolding lengths_check_of
  lengths-refused h = cond-refused (not (eqb n c.edges)) LengthCount others h

  pub lengths-decided : lengths_check_of c n Done ≡ Done → lengths_check_of c n others ≡ others
  unfolding lengths_check_of
  lengths-decided h = cond-decided (not (eqb n c.edges)) LengthCount others h

module _ (c : Counts) (free : List ℕ) (others : Outcome) where
  pub free-refused : {r : Refusal} → free_check_of c free Done ≡ Err r → free_check_of c free others ≡ Err r
  unfolding free_check_of
  free-refused {r} h = go (too_large c.edges free) (repeats free) h
    where
      go : (x y : Bool) → cond x (Err EdgeTooLarge) (cond y (Err RepeatedEdge) Done) ≡ Err r → cond x (Err EdgeTooLarge) (cond y (Err RepeatedEdge) others) ≡ Err r
      go true y e = e
      go false y e = cond-refused y RepeatedEdge others e

  pub free-decided : free_check_of c free Done ≡ Done → free_check_of c free others ≡ others
  unfolding free_check_of
  free-decided h = let p = free-passed c free Done h in rw (p.0, p.1) refl

pub room-passed : (short : Bool) → room_check_of short ≡ Done → short ≡ false
unfolding room_check_of
room-passed short h = (cond-done short ShortRoom Done h).0

-- an output that is short, and one that is not
pub room-short : room_check_of true ≡ Err ShortRoom
unfolding room_check_of
room-short = refl

pub room-enough : room_check_of false ≡ Done
unfolding room_check_of
room-enough = refl

pub triangle-passed : (c : Counts) (t : ℕ) → triangle_check_of c t ≡ Done → t < c.triangles
unfolding triangle_check_of
triangle-passed c t h = ltb-true t c.triangles (go (ltb t c.triangles) h)
  where
    go : (b : Bool) → cond b Done (Err BadIndex) ≡ Done → b ≡ true
    go true e = refl
    go false e = absurd (done-not-refused (sym e))

-- free edges that are not too large are below the number of edges
pub not-large-below : (n : ℕ) (free : List ℕ) → too_large n free ≡ false → (m : ℕ) → n ≤ m → Below free m
not-large-below n free h m l k i = omega (arith, not-large n free h (get_or-mem free k 0 i))

-- ---- the check of the complex

-- what is not built is refused with 7
pub not-built : (c : Counts) (l : Lists) (others : Outcome) → is_built c l ≡ false → built_check_of c l others ≡ Err NotBuilt
unfolding built_check_of
not-built c l others e = rw e refl

-- where it is built the other checks decide
pub others-decide : (c : Counts) (l : Lists) (others : Outcome) → is_built c l ≡ true → built_check_of c l others ≡ others
unfolding built_check_of
others-decide c l others e = rw e refl

pub built-refused : {r : Refusal} (c : Counts) (l : Lists) (others : Outcome) → built_check_of c l Done ≡ Err r → built_check_of c l others ≡ Err r
unfolding built_check_of
built-refused c l others h = cond-refused (not (is_built c l)) NotBuilt others h

pub built-decided : (c : Counts) (l : Lists) (others : Outcome) → built_check_of c l Done ≡ Done → built_check_of c l others ≡ others
unfolding built_check_of
built-decided c l others h = cond-decided (not (is_built c l)) NotBuilt others h

-- ---- a list that is filled

module _ {o : Outcome} {content old : List Float} where
  -- a refused call leaves it as it was
  pub filled-refused : {r : Outcome} {e : Refusal} → o ≡ Err e → r ≡ Err e → Filled o content old r old
  filled-refused f e = record { answered = e ∙ sym f; entries = rw e refl }

  -- what holds of checks holds of others that say the same
  pub filled-same : {u r : Outcome} {new : List Float} → o ≡ u → Filled o content old r new → Filled u content old r new
  filled-same e f = record { answered = f.answered ∙ e; entries = f.entries }
