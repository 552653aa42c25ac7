-- The hinges of one pass over the pentachorons are those of each triangle by itself. Assumes nothing.
-- The pentachorons of a triangle ascend: `holding-rising` (complex, Laws).
use Rattle.std.specs.Prelude.{Option, None}
use Rattle.lorentzian.specs.declared.dihedral.HingeType.{HingeType}
use Prim.Native.Nat.{ℕ, ◌<◌}
use mathlib.Core.Path.{◌≡◌, refl, sym, ap, ◌∙◌, subst}
use mathlib.Core.Bool.{Bool, not, cond}
use mathlib.Core.List.{List, [], ◌∷◌, map, reverse, Memᴰ}
use native.Mathlib.Omega.{arith}
use lib.ListN.{length, get_or, replicate, length-replicate, length-map, get_or-replicate}
use lib.Ieee.{Float, nan}
use Rattle.floats.specs.Ops as Ops
use Rattle.lists.specs.Lists.{keep, upto, combos, among, within, Within, Rising}
use Rattle.lists.specs.Keys.{find}
use Rattle.lists.specs.Rows.{Wide}
use Rattle.lists.specs.Loops.{hits}
use Rattle.lists.proofs.Tests.{Says, pass, fail}
use Rattle.lists.proofs.Elements.{get_or-mem, get_or-map, gather-places, rising-place, not-among, keep-mem, mem-keep, keep_same, map_same, map_at, upto-mem, mem-upto, upto-rising, length-upto, get_or-table, mem-reverse, reverse-mem, among-says, within-says}
use Rattle.lists.proofs.Keys.{find-get}
use Rattle.lists.proofs.Choices.{combos-within, combos_has, combos-once}
use Rattle.lists.proofs.Loops.{scatter-at, hits-keep, hits-one, hits-none}
use Rattle.complex.specs.Complex.{triangles, holding, tri_to_pents}
use Rattle.complex.proofs.SortedPents.{five-of}
use Rattle.complex.proofs.Lying.{Sorted}
use Rattle.incidence.specs.Incidence.{Simplices, opposite_indices}
use Rattle.incidence.proofs.Incident.{simplices-of}
use Rattle.lorentzian.specs.declared.dihedral.Dihedral.{Dihedral}
use Rattle.hinges.specs.declared.hinge.Hinge.{Hinge}
use Rattle.hinges.specs.Hinges.{FaceLists, built_faces, plus, first, closed, hinge, pent_lengths, dihedral_of, local_pairs, without, dihedrals, pass_dihedrals, sums, first_kinds, hinges, hinge_in, dihedral_in, hinge_at}

-- ---- the table

-- a reading of all hinges has one entry for each triangle
pub length-hinges : {S : Type 0} (F : FaceLists) (ls : List Float) (g : Hinge → S) → length (map g (hinges F ls)) ≡ length F.triangles
unfolding hinges
length-hinges F ls g = length-map (hinges F ls) g ∙ length-map (upto (length F.triangles)) (λ t. closed (get_or (first_kinds F ls) t None) (get_or (sums F ls) t nan)) ∙ length-upto (length F.triangles)

-- ---- the local indices of a pentachoron

-- a pair is the indices that it names
named : (lm : List ℕ) → Memᴰ lm local_pairs → keep (λ v. among v lm) (upto 5) ≡ lm
unfolding combos upto keep among
named lm m = map_at (λ lm. keep (λ v. among v lm) (upto 5)) (λ lm. lm) [] local_pairs refl m

-- the triples of five vertices are what the pairs leave, from the last pair on
triples : (p : List ℕ) → length p ≡ 5 → combos p 3 ≡ map (without p) (reverse local_pairs)
unfolding combos upto keep among without
triples p h = rw (five-of p h) refl

-- the vertices that are not in what a pair leaves are the pair's own
left_indices : (p lm : List ℕ) → Rising p → length p ≡ 5 → Memᴰ lm local_pairs → opposite_indices p (without p lm) ≡ lm
unfolding opposite_indices without
left_indices p lm r l m =
    ap (λ (n : ℕ). keep (λ v. not (among (get_or p v 0) (without p lm))) (upto n)) l
    ∙ keep_same (λ v. not (among (get_or p v 0) (without p lm))) (λ v. among v lm) (upto 5) (λ v k. at v (mem-upto 5 v k) (among-says (get_or p v 0) (without p lm)) (among-says v lm)) ∙ named lm m
  where
    -- the vertex at an index of the pair is not left
    goes : (v : ℕ) → v < 5 → Memᴰ v lm → Memᴰ (get_or p v 0) (without p lm) → ⊥
    goes v h k n =
        let w : (i : ℕ) × Memᴰ i (keep (λ v. not (among v lm)) (upto 5)) × (get_or p i 0 ≡ get_or p v 0) = mathlib.Core.List.Memᴰ.of_map (λ (v : ℕ). get_or p v 0) (keep (λ v. not (among v lm)) (upto 5)) n in
        let q : Memᴰ w.0 (upto 5) × (Memᴰ w.0 lm → ⊥) = mem-keep (λ v. not-among v lm) (upto 5) w.1 in
        let e : w.0 ≡ v = rising-place p w.0 v r (omega (arith, mem-upto 5 w.0 q.0)) (omega arith) w.2 in
        q.1 (mathlib.Core.List.Memᴰ.cast e k)

    at : (v : ℕ) → v < 5 → {a b : Bool} → Says (Memᴰ (get_or p v 0) (without p lm)) a → Says (Memᴰ v lm) b → not a ≡ b
    at v h (pass n) (pass k) = absurd (goes v h k n)
    at v h (pass n) (fail f) = refl
    at v h (fail n) (pass k) = refl
    at v h (fail n) (fail f) = absurd (n (mathlib.Core.List.Memᴰ.map (λ (v : ℕ). get_or p v 0) (keep-mem (λ v. not-among v lm) (upto 5) (upto-mem 5 v h) f)))

-- ---- the pass

module _ (F : FaceLists) (ls : List Float) (ok : Simplices F.pents F.triangles) (five : Wide 5 F.pents) where
  -- a triple that is found at t is triangle t
  stands : (t : ℕ) (s : List ℕ) → t < length F.triangles → find s F.triangles ≡ t → get_or F.triangles t [] ≡ s
  stands t s h e = ap (λ (i : ℕ). get_or F.triangles i []) (sym e) ∙ find-get s F.triangles (rw e h)

  -- a pentachoron has one dihedral at each triangle that lies in it, and none at others
  hits_pent : (t : ℕ) → t < length F.triangles → (p : List ℕ) → Memᴰ p F.pents
      → hits t (dihedrals F ls p) ≡ cond (within (get_or F.triangles t []) p) (dihedral_of (pent_lengths F ls p) (opposite_indices p (get_or F.triangles t [])) ∷ []) []
  unfolding dihedrals
  hits_pent t h p m = go (within-says s p)
    where
      s : List ℕ
      s = get_or F.triangles t []

      number : List ℕ → ℕ
      number lm = find (without p lm) F.triangles

      value : List ℕ → Dihedral
      value lm = dihedral_of (pent_lengths F ls p) lm

      own : (lm : List ℕ) → Memᴰ lm local_pairs → without p lm ≡ s → opposite_indices p s ≡ lm
      own lm n e = ap (opposite_indices p) (sym e) ∙ left_indices p lm (ok.pentachoron p m) (five p m) n

      one : (lm : List ℕ) → Memᴰ lm local_pairs → without p lm ≡ s → hits t (map (λ lm. (number lm, value lm)) local_pairs) ≡ value (opposite_indices p s) ∷ []
      one lm n e =
          hits-one t number value local_pairs lm (combos-once (upto 5) 2 (upto-rising 5)) n (ap (λ (u : List ℕ). find u F.triangles) e ∙ ok.distinct t h)
          (λ x k q. sym (own x k (sym (stands t (without p x) h q))) ∙ own lm n e)
          ∙ ap (λ (u : List ℕ). value u ∷ []) (sym (own lm n e))

      go : {b : Bool} → Says (Within s p) b → hits t (map (λ lm. (number lm, value lm)) local_pairs) ≡ cond b (value (opposite_indices p s) ∷ []) []
      go (pass w) =
          let g : Rising s × (length s ≡ 3) = ok.triangle s (get_or-mem F.triangles t [] h) in
          let c : Memᴰ s (map (without p) (reverse local_pairs)) = subst (λ (l : List (List ℕ)). Memᴰ s l) (triples p (five p m)) (combos_has p 3 s (ok.pentachoron p m) g.0 g.1 w) in
          let q : (lm : List ℕ) × Memᴰ lm (reverse local_pairs) × (without p lm ≡ s) = mathlib.Core.List.Memᴰ.of_map (without p) (reverse local_pairs) c in
          one q.0 (mem-reverse local_pairs q.1) q.2
      go (fail f) =
          hits-none t (map (λ lm. (number lm, value lm)) local_pairs)
          (λ a n e.
          let q : (lm : List ℕ) × Memᴰ lm local_pairs × ((number lm, value lm) ≡ a) = mathlib.Core.List.Memᴰ.of_map (λ lm. (number lm, value lm)) local_pairs n in
          let same : s ≡ without p q.0 = stands t (without p q.0) h (ap (λ (b : ℕ × Dihedral). b.0) q.2 ∙ e) in
          let c : Memᴰ (without p q.0) (combos p 3) = subst (λ (l : List (List ℕ)). Memᴰ (without p q.0) l) (sym (triples p (five p m))) (mathlib.Core.List.Memᴰ.map (without p) (reverse-mem local_pairs q.1)) in
          f (subst (λ (u : List ℕ). Within u p) (sym same) (combos-within p 3 c)))

  -- the dihedrals that the pass hands to triangle t are those of its pentachorons, in their order
  pub hits-all : (t : ℕ) → t < length F.triangles → hits t (pass_dihedrals F ls) ≡ map (dihedral_in F ls (get_or F.triangles t [])) (holding F.pents (get_or F.triangles t []))
  unfolding pass_dihedrals holding dihedral_in
  hits-all t h =
      ap (hits t) (gather-places (dihedrals F ls) F.pents [])
      ∙ hits-keep t (λ i. dihedrals F ls (get_or F.pents i [])) (dihedral_in F ls (get_or F.triangles t [])) (λ i. within (get_or F.triangles t []) (get_or F.pents i [])) (upto (length F.pents))
      (λ i m. hits_pent t h (get_or F.pents i []) (get_or-mem F.pents i [] (mem-upto (length F.pents) i m)))

  -- what the pass leaves at triangle t
  closed_at : (t : ℕ) → t < length F.triangles
      → closed (get_or (first_kinds F ls) t None) (get_or (sums F ls) t nan) ≡ hinge (map (dihedral_in F ls (get_or F.triangles t [])) (holding F.pents (get_or F.triangles t [])))
  unfolding first_kinds sums hinge
  closed_at t h =
      rw (
        scatter-at None first (pass_dihedrals F ls) (replicate (length F.triangles) None) t (rw length-replicate h),
        scatter-at nan plus (pass_dihedrals F ls) (replicate (length F.triangles) Ops.zero) t (rw length-replicate h),
        hits-all t h,
        get_or-replicate {A = (Option HingeType)} (length F.triangles) t None None h,
        get_or-replicate (length F.triangles) t Ops.zero nan h,
      )

  -- the hinge of triangle t in the pass's table is that of its pentachorons' dihedrals
  pub hinge-in : (t : ℕ) → t < length F.triangles → hinge_in (hinges F ls) t ≡ hinge (map (dihedral_in F ls (get_or F.triangles t [])) (holding F.pents (get_or F.triangles t [])))
  unfolding hinges
  hinge-in t h = get_or-table (λ t. closed (get_or (first_kinds F ls) t None) (get_or (sums F ls) t nan)) (length F.triangles) t _ h ∙ closed_at t h

  -- the pass's table is the one that works each triangle out by itself
  pub one-pass : (tp : List (List ℕ)) → ((t : ℕ) → t < length F.triangles → get_or tp t [] ≡ holding F.pents (get_or F.triangles t [])) → hinges F ls ≡ map (hinge_at F tp ls) (upto (length F.triangles))
  unfolding hinges hinge_at
  one-pass tp own =
      map_same (λ t. closed (get_or (first_kinds F ls) t None) (get_or (sums F ls) t nan)) (hinge_at F tp ls) (upto (length F.triangles))
      (λ t m.
      let h : t < length F.triangles = mem-upto (length F.triangles) t m in
      closed_at t h ∙ ap (λ (is : List ℕ). hinge (map (dihedral_in F ls (get_or F.triangles t [])) is)) (sym (own t h)))

-- the same for the complex that the builder makes of sorted pentachorons
pub built-one_pass : (ps : List (List ℕ)) (ls : List Float) → Sorted ps → Wide 5 ps → hinges (built_faces ps) ls ≡ map (hinge_at (built_faces ps) (tri_to_pents ps) ls) (upto (length (triangles ps)))
unfolding tri_to_pents
built-one_pass ps ls up five = one-pass (built_faces ps) ls (simplices-of ps up) five (tri_to_pents ps) (λ t h. get_or-map (holding ps) (triangles ps) t [] [] h)
