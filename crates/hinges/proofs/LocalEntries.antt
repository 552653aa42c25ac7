-- Free edges: the triangles on them, their hinges, and that their entries of the gradient, summed over those triangles alone, are the entries of the gradient of all. Assumes nothing.
use Prim.Native.Nat.{ℕ, zero, suc, ◌+◌, ◌≤◌, ◌<◌}
use mathlib.Core.Bool.{Bool, true, false, cond}
use mathlib.Core.List.Memᴰ
use mathlib.Core.List.{List, [], ◌∷◌, map, map-id, foldl, Memᴰ}
use mathlib.Core.Logic.{⊎_elim}
use mathlib.Core.Path.{◌≡◌, refl, sym, ap, ◌∙◌, subst}
use native.Mathlib.Nat.{le_of_suc-le-suc, not-suc-le-zero, zero-add}
use native.Mathlib.Omega.{arith}
use lib.Dec.{eqb}
use lib.Ieee.{Float, nan, lt}
use lib.ListN.{length, get_or, replicate, length-replicate, get_or-replicate, length-map}
use lib.Seq.{ext_get_or}
use borrow.Author.Tests.{eq-eqb, ne_eqb}
use Rattle.floats.specs.Ops as Ops
use Rattle.floats.specs.Ops.{◌⊕◌}
use Rattle.lists.specs.Lists.{gather, upto, combos, among, Rising}
use Rattle.lists.specs.Keys.{find}
use Rattle.lists.specs.Rows.{Wide}
use Rattle.lists.specs.Groups.{places, Below}
use Rattle.lists.specs.Loops.{scatter, hits}
use Rattle.lists.proofs.Tests.{Says, pass, fail, says-by, said, denied, passes, eqb-says}
use Rattle.lists.proofs.Elements.{get_or-mem, mem-get_or, get_or-map, keep-mem, mem-keep, keep-rising, gather-mem, mem-gather, gather-one, map_same, upto-mem, mem-upto, upto-rising, among-says}
use Rattle.lists.proofs.Loops.{length-scatter, scatter-at, hits-none, hits-skip, hits-same}
use Rattle.complex.specs.Complex.{edges, triangles, holding, tri_to_pents}
use Rattle.complex.proofs.FaceNumbers.{three-edges}
use Rattle.complex.proofs.Lying.{Sorted, edge-of-triangle, mem-holding}
use Rattle.incidence.specs.Incidence.{Simplices}
use Rattle.incidence.proofs.Incident.{simplices-of}
use Rattle.marks.specs.Marks.{met, listed}
use Rattle.hinges.specs.declared.hinge.Hinge.{Hinge}
use Rattle.hinges.specs.Hinges.{FaceLists, built_faces, hinge, hinges, hinge_in, deficits_of, dihedral_in, hinge_at}
use Rattle.hinges.specs.Action.{edges_at, tri_lengths, abs_area, area_limit, contribution_of, at_three, contributions_of, contributions, gradient_of}
use Rattle.hinges.specs.Local.{local_triangles, local_hinges, local_gradient, at_free, summed_gradient}
use Rattle.hinges.specs.Parts.{Found}
use Rattle.hinges.proofs.OnePass.{hinge-in, length-hinges}
use Rattle.hinges.proofs.SharedTriangle.{face-lies}

-- ---- events at a place

-- a list of sums begins at zero: what it has at a place after events
pub sum-at : (es : List (ℕ × Float)) (m e : ℕ) → e < m → get_or (scatter nan ◌⊕◌ es (replicate m Ops.zero)) e nan ≡ foldl ◌⊕◌ Ops.zero (hits e es)
sum-at es m e h =
    scatter-at nan ◌⊕◌ es (replicate m Ops.zero) e (rw length-replicate h)
    ∙ ap (λ (s : Float). foldl ◌⊕◌ s (hits e es)) (get_or-replicate m e Ops.zero nan h)

-- ---- the triangles on free edges

module _ (F : FaceLists) (free : List ℕ) where
  -- a triangle on free edges is one in which some free edge lies
  pub local-lies : (t : ℕ) → Memᴰ t (local_triangles F free) → (t < length F.triangles) × ((e : ℕ) × Memᴰ e free × Memᴰ t (holding F.triangles (get_or F.edges e [])))
  unfolding listed met
  local-lies t m =
      let w = mem-keep (λ t. among-says t (met F.triangles F.edges free)) (upto (length F.triangles)) m in
      (mem-upto (length F.triangles) t w.0, mem-gather (λ e. holding F.triangles (get_or F.edges e [])) free w.1)

  -- a triangle in which a free edge lies is met
  lying-is-met : (t e : ℕ) → Memᴰ e free → Memᴰ t (holding F.triangles (get_or F.edges e [])) → Memᴰ t (met F.triangles F.edges free)
  unfolding met
  lying-is-met t e m n = gather-mem (λ e. holding F.triangles (get_or F.edges e [])) m n

  -- and is one on free edges
  pub lying-is_local : (t e : ℕ) → Memᴰ e free → Memᴰ t (holding F.triangles (get_or F.edges e [])) → Memᴰ t (local_triangles F free)
  unfolding listed
  lying-is_local t e m n =
      keep-mem (λ t. among-says t (met F.triangles F.edges free)) (upto (length F.triangles)) (upto-mem (length F.triangles) t (mem-holding F.triangles (get_or F.edges e []) n).0) (lying-is-met t e m n)

  -- the test of a number among them says so
  pub local-triangles_say : (t : ℕ) → Says ((t < length F.triangles) × ((e : ℕ) × Memᴰ e free × Memᴰ t (holding F.triangles (get_or F.edges e [])))) (among t (local_triangles F free))
  local-triangles_say t =
      let own = among-says t (local_triangles F free) in
      says-by (among t (local_triangles F free)) (λ e. local-lies t (said own e)) (λ w. passes own (lying-is_local t w.1.0 w.1.1 w.1.2))

  -- each stands once, ascending
  pub local-triangles-rising : Rising (local_triangles F free)
  unfolding listed
  local-triangles-rising = keep-rising (λ t. among t (met F.triangles F.edges free)) (upto (length F.triangles)) (upto-rising (length F.triangles))

-- ---- the entry of one edge

-- a triangle adds at its own edges alone
none_elsewhere : (es : List ℕ) (s : List Float) (deficit : Float) (e : ℕ) → length es ≡ 3 → (Memᴰ e es → ⊥) → hits e (contributions_of es s deficit) ≡ []
unfolding contributions_of hits
none_elsewhere es s deficit e l n = go (lt (abs_area s) area_limit)
  where
    other : (i : ℕ) → i < 3 → get_or es i 0 ≡ e → ⊥
    other i h q = n (subst (λ (k : ℕ). Memᴰ k es) q (get_or-mem es i 0 (omega arith)))

    go : (b : Bool) → hits e (cond b [] (at_three es (contribution_of s (abs_area s) deficit))) ≡ []
    go true = refl
    go false = rw (ne_eqb (get_or es 0 0) e (other 0 (omega arith)), ne_eqb (get_or es 1 0) e (other 1 (omega arith)), ne_eqb (get_or es 2 0) e (other 2 (omega arith))) refl

module _ (F : FaceLists) (found : Found F.edges 2 F.triangles) (three : Wide 3 F.triangles) where
  -- a triangle on no free edge adds nothing at a free edge
  none-off : (ls ds : List Float) (free : List ℕ) (e t : ℕ) → Memᴰ e free → t < length F.triangles → among t (met F.triangles F.edges free) ≡ false → hits e (contributions F ls ds t) ≡ []
  unfolding contributions
  none-off ls ds free e t m h off =
      let r = get_or F.triangles t [] in
      none_elsewhere (edges_at F t) (tri_lengths F ls t) (get_or ds t nan) e
      (length-map (combos r 2) (λ s. find s F.edges) ∙ three-edges r (three r (get_or-mem F.triangles t [] h)))
      (λ n. denied (among-says t (met F.triangles F.edges free)) off (lying-is-met F free t e m (face-lies F.edges 2 F.triangles found t e h n)))

  -- the triangles on free edges add at a free edge what all triangles add there
  local-hits : (ls ds : List Float) (free : List ℕ) (e : ℕ) → Memᴰ e free → hits e (gather (contributions F ls ds) (local_triangles F free)) ≡ hits e (gather (contributions F ls ds) (upto (length F.triangles)))
  unfolding listed
  local-hits ls ds free e m =
      hits-skip e (contributions F ls ds) (λ t. among t (met F.triangles F.edges free)) (upto (length F.triangles))
      (λ t k off. none-off ls ds free e t m (mem-upto (length F.triangles) t k) off)

  -- so a free edge's sum over them is its entry of the gradient
  pub entry_local : (ls ds : List Float) (free : List ℕ) (m e : ℕ) → Memᴰ e free → e < length F.edges → length F.edges ≤ m
      → get_or (scatter nan ◌⊕◌ (gather (contributions F ls ds) (local_triangles F free)) (replicate m Ops.zero)) e nan ≡ get_or (gradient_of F ls ds) e nan
  unfolding gradient_of
  entry_local ls ds free m e k h room =
      sum-at (gather (contributions F ls ds) (local_triangles F free)) m e (omega arith)
      ∙ ap (foldl ◌⊕◌ Ops.zero) (local-hits ls ds free e k)
      ∙ sym (sum-at (gather (contributions F ls ds) (upto (length F.triangles))) (length F.edges) e h)

  -- the sums of all free edges are the local gradient
  pub entries_local : (ls : List Float) (free : List ℕ) (m : ℕ) → Below free (length F.edges) → length F.edges ≤ m
      → map (λ e. get_or (scatter nan ◌⊕◌ (gather (contributions F ls (deficits_of (hinges F ls))) (local_triangles F free)) (replicate m Ops.zero)) e nan) free ≡ local_gradient F ls free
  unfolding local_gradient
  entries_local ls free m below room =
      let ds = deficits_of (hinges F ls) in
      map_same (λ e. get_or (scatter nan ◌⊕◌ (gather (contributions F ls ds) (local_triangles F free)) (replicate m Ops.zero)) e nan) (λ e. get_or (gradient_of F ls ds) e nan) free
      (λ e k. let w = mem-get_or 0 k in entry_local ls ds free m e k (subst (λ (i : ℕ). i < length F.edges) w.2 (below w.0 w.1)) room)

-- ---- a triangle by itself

module _ (F : FaceLists) (ls : List Float) (ok : Simplices F.pents F.triangles) (five : Wide 5 F.pents) (tp : List (List ℕ)) (own : (t : ℕ) → t < length F.triangles → get_or tp t [] ≡ holding F.pents (get_or F.triangles t [])) where
  -- the hinge that is worked out from all pentachorons of a triangle is the one in the table
  pub hinge-alone : (t : ℕ) → t < length F.triangles → hinge_at F tp ls t ≡ hinge_in (hinges F ls) t
  unfolding hinge_at
  hinge-alone t h = ap (λ (is : List ℕ). hinge (map (dihedral_in F ls (get_or F.triangles t [])) is)) (own t h) ∙ sym (hinge-in F ls ok five t h)

  -- so are those of the triangles on free edges
  pub hinges-alone : (free : List ℕ) → map (hinge_at F tp ls) (local_triangles F free) ≡ local_hinges F ls free
  hinges-alone free = map_same (hinge_at F tp ls) (hinge_in (hinges F ls)) (local_triangles F free) (λ t m. hinge-alone t (local-lies F free t m).0)

  -- what such a triangle adds is what it adds by the table
  adds-alone : (t : ℕ) → t < length F.triangles → contributions_of (edges_at F t) (tri_lengths F ls t) (hinge_at F tp ls t).deficit ≡ contributions F ls (deficits_of (hinges F ls)) t
  unfolding contributions
  adds-alone t h =
      let l : length (deficits_of (hinges F ls)) ≡ length F.triangles = length-hinges F ls (λ h. h.deficit) in
      let k : t < length (hinges F ls) = omega (arith, l, length-map (hinges F ls) (λ h. h.deficit)) in
      ap (contributions_of (edges_at F t) (tri_lengths F ls t)) (ap (λ (u : Hinge). u.deficit) (hinge-alone t h) ∙ sym (get_or-map (λ (u : Hinge). u.deficit) (hinges F ls) t _ nan k))

-- ---- events at the places of free edges

-- the places from k on are no less than k
places-from : (t k : ℕ) (xs : List ℕ) {i : ℕ} → Memᴰ i (places t k xs) → k ≤ i
unfolding places
places-from t k [] m = absurd (Memᴰ.not-nil m)
places-from t k (x ∷ xs) {i} m = go (eqb x t) (places-from t (k + 1) xs) m
  where
    go : (b : Bool) → (Memᴰ i (places t (k + 1) xs) → k + 1 ≤ i) → Memᴰ i (cond b (k ∷ places t (k + 1) xs) (places t (k + 1) xs)) → k ≤ i
    go true r n = ⊎_elim (λ e. omega arith) (λ l. omega (arith, r l)) (Memᴰ.cases_cons n)
    go false r n = omega (arith, r n)

module _ {X : Type 0} (x : X) where
  -- no event stands before the places
  hits-before : (t k j : ℕ) (xs : List ℕ) → j < k → hits j (map (λ i. (i, x)) (places t k xs)) ≡ []
  hits-before t k j xs h =
      hits-none j (map (λ i. (i, x)) (places t k xs))
      (λ a m e.
      let w : (i : ℕ) × Memᴰ i (places t k xs) × ((i, x) ≡ a) = Memᴰ.of_map (λ (i : ℕ). (i, x)) (places t k xs) m in
      omega (arith, places-from t k xs w.1, ap (λ (b : ℕ × X). b.0) w.2, e, h))

  -- an event put at every place of its number stands at place k where the number there is its own
  hits-places : (t o : ℕ) (xs : List ℕ) (k : ℕ) → k < length xs → hits (o + k) (map (λ i. (i, x)) (places t o xs)) ≡ hits (get_or xs k 0) ((t, x) ∷ [])
  unfolding hits places
  hits-places t o [] k h = absurd (not-suc-le-zero h)
  hits-places t o (y ∷ ys) zero h = go (eqb-says y t) (eqb-says t y)
    where
      r : List ℕ
      r = places t (o + 1) ys

      rest : hits (o + zero) (map (λ i. (i, x)) r) ≡ []
      rest = hits-before t (o + 1) (o + zero) ys (omega arith)

      go : {a b : Bool} → Says (y ≡ t) a → Says (t ≡ y) b → hits (o + zero) (map (λ i. (i, x)) (cond a (o ∷ r) r)) ≡ cond b (x ∷ []) []
      go (pass p) (pass q) = rw (eq-eqb o (o + zero) (omega arith), rest) refl
      go (pass p) (fail n) = absurd (n (sym p))
      go (fail n) (pass q) = absurd (n (sym q))
      go (fail n) (fail m) = rest
  hits-places t o (y ∷ ys) (suc k) h = go (eqb y t) (hits-places t (o + 1) ys k (le_of_suc-le-suc h))
    where
      r : List ℕ
      r = places t (o + 1) ys

      next : o + suc k ≡ o + 1 + k
      next = omega arith

      moved : hits (o + 1 + k) (map (λ i. (i, x)) r) ≡ hits (get_or ys k 0) ((t, x) ∷ []) → hits (o + suc k) (map (λ i. (i, x)) r) ≡ hits (get_or ys k 0) ((t, x) ∷ [])
      moved = subst (λ (n : ℕ). hits n (map (λ i. (i, x)) r) ≡ hits (get_or ys k 0) ((t, x) ∷ [])) (sym next)

      go : (b : Bool) → hits (o + 1 + k) (map (λ i. (i, x)) r) ≡ hits (get_or ys k 0) ((t, x) ∷ []) → hits (o + suc k) (map (λ i. (i, x)) (cond b (o ∷ r) r)) ≡ hits (get_or ys k 0) ((t, x) ∷ [])
      go true e = rw (ne_eqb o (o + suc k) (λ q. omega arith)) (moved e)
      go false e = moved e

-- the events at place k of the free edges are those of the edge there
pub hits-free : (free : List ℕ) (k : ℕ) → k < length free → (es : List (ℕ × Float)) → hits k (at_free free es) ≡ hits (get_or free k 0) es
unfolding at_free
hits-free free k h es =
    hits-same k (get_or free k 0) (λ a. map (λ i. (i, a.1)) (places a.0 0 free)) (λ a. a ∷ []) es (λ a m. ap (λ (j : ℕ). hits j (map (λ i. (i, a.1)) (places a.0 0 free))) (sym (zero-add k)) ∙ hits-places a.1 a.0 0 free k h)
    ∙ ap (hits (get_or free k 0)) (gather-one (λ a. a) es ∙ map-id es)

-- ---- the gradient as the Rust sums it

module _ (F : FaceLists) (ls : List Float) (ok : Simplices F.pents F.triangles) (five : Wide 5 F.pents) (found : Found F.edges 2 F.triangles) (tp : List (List ℕ)) (own : (t : ℕ) → t < length F.triangles → get_or tp t [] ≡ holding F.pents (get_or F.triangles t [])) where
  -- triangles on free edges, each worked out by itself, with only the free edges' entries summed: the entries of the gradient of all
  pub summed-is_local : (free : List ℕ) → Below free (length F.edges) → summed_gradient F tp ls free ≡ local_gradient F ls free
  unfolding summed_gradient local_gradient
  summed-is_local free below =
      ext_get_or nan (scatter nan ◌⊕◌ events (replicate (length free) Ops.zero)) (map (λ e. get_or (gradient_of F ls ds) e nan) free) (long ∙ sym (length-map free (λ e. get_or (gradient_of F ls ds) e nan)))
      (λ k h. entry k (subst (λ (n : ℕ). k < n) long h))
    where
      ds : List Float
      ds = deficits_of (hinges F ls)

      adds : ℕ → List (ℕ × Float)
      adds t = contributions_of (edges_at F t) (tri_lengths F ls t) (hinge_at F tp ls t).deficit

      events : List (ℕ × Float)
      events = gather (λ t. at_free free (adds t)) (local_triangles F free)

      three : Wide 3 F.triangles
      three r m = (ok.triangle r m).1

      long : length (scatter nan ◌⊕◌ events (replicate (length free) Ops.zero)) ≡ length free
      long = length-scatter nan ◌⊕◌ events (replicate (length free) Ops.zero) ∙ length-replicate (length free) Ops.zero

      same : (k : ℕ) → k < length free → hits k events ≡ hits (get_or free k 0) (gather (contributions F ls ds) (local_triangles F free))
      same k h =
          hits-same k (get_or free k 0) (λ t. at_free free (adds t)) (contributions F ls ds) (local_triangles F free)
          (λ t m. hits-free free k h (adds t) ∙ ap (hits (get_or free k 0)) (adds-alone F ls ok five tp own t (local-lies F free t m).0))

      entry : (k : ℕ) → k < length free → get_or (scatter nan ◌⊕◌ events (replicate (length free) Ops.zero)) k nan ≡ get_or (map (λ e. get_or (gradient_of F ls ds) e nan) free) k nan
      entry k h =
          sum-at events (length free) k h
          ∙ ap (foldl ◌⊕◌ Ops.zero) (same k h)
          ∙ sym (sum-at (gather (contributions F ls ds) (local_triangles F free)) (length F.edges) (get_or free k 0) (below k h))
          ∙ entry_local F found three ls ds free (length F.edges) (get_or free k 0) (get_or-mem free k 0 h) (below k h) (omega arith)
          ∙ sym (get_or-map (λ e. get_or (gradient_of F ls ds) e nan) free k 0 nan h)

-- ---- the complex that the builder makes of sorted pentachorons

module _ (ps : List (List ℕ)) (ls : List Float) (up : Sorted ps) (five : Wide 5 ps) where
  -- its list has the pentachorons of each triangle
  holders-own : (t : ℕ) → t < length (triangles ps) → get_or (tri_to_pents ps) t [] ≡ holding ps (get_or (triangles ps) t [])
  unfolding tri_to_pents
  holders-own t h = get_or-map (holding ps) (triangles ps) t [] [] h

  -- the hinge of a triangle by itself, from all its pentachorons, is that of the pass
  pub triangle-hinge : (t : ℕ) → t < length (triangles ps) → hinge_at (built_faces ps) (tri_to_pents ps) ls t ≡ hinge_in (hinges (built_faces ps) ls) t
  triangle-hinge t h = hinge-alone (built_faces ps) ls (simplices-of ps up) five (tri_to_pents ps) holders-own t h

  -- each local hinge is the global one
  pub local-hinge : (free : List ℕ) → map (hinge_at (built_faces ps) (tri_to_pents ps) ls) (local_triangles (built_faces ps) free) ≡ local_hinges (built_faces ps) ls free
  local-hinge free = hinges-alone (built_faces ps) ls (simplices-of ps up) five (tri_to_pents ps) holders-own free

  -- the local gradient as the Rust sums it has the free edges' entries of the gradient of all, bit for bit
  pub summed-gradient : (free : List ℕ) → Below free (length (edges ps)) → summed_gradient (built_faces ps) (tri_to_pents ps) ls free ≡ local_gradient (built_faces ps) ls free
  summed-gradient free below =
      summed-is_local (built_faces ps) ls (simplices-of ps up) five (λ r s m n. edge-of-triangle ps up m n) (tri_to_pents ps) holders-own free below
