-- The face numbers of sorted pentachorons, and the adjacency lists that grouping them gives. Assumes nothing.
use Prim.Native.Nat.{ℕ, ◌+◌, ◌*◌, ◌/◌, ◌%◌, ◌≤◌, ◌<◌}
use mathlib.Core.Path.{◌≡◌, refl, sym, ap, ◌∙◌}
use mathlib.Core.List.{List, [], ◌∷◌, map, Memᴰ}
use native.Mathlib.Omega.{arith}
use lib.ListN.{length, get_or, take, length-map, get_or-replicate}
use lib.Seq.{get_or-take, ext_get_or}
use Rattle.lists.specs.Lists.{gather, combos}
use Rattle.lists.specs.Keys.{find}
use Rattle.lists.specs.Rows.{Wide}
use Rattle.lists.specs.Groups.{groups, Below}
use Rattle.lists.proofs.Elements.{get_or-mem, mem-get_or, get_or-map, map-gather, gather-at, length-gather}
use Rattle.lists.proofs.Keys.{find-get, find-mem, firsts-room, firsts_has, firsts-only}
use Rattle.complex.specs.declared.numbering.Face.{Face}
use Rattle.complex.specs.declared.numbering.Face.TheVariants.{Edge, Triangle}
use Rattle.complex.specs.Complex.{count_of, faces_of, met_faces, faces, edges, triangles, tri_to_pents, edge_to_tris, edge_to_pents, numbers_of, row_numbers}
use Rattle.complex.specs.Parts.{edge_places, edge_at, Consistent, EdgesOf}
use Rattle.complex.proofs.SortedPents.{five-of}
use Rattle.complex.proofs.Meetings.{count-faces, length-met}
use Rattle.complex.proofs.TriangleEdges.{place-below}
use Rattle.complex.proofs.Lying.{Sorted, Keyed, faces-distinct, faces_has, face-rising, edge-of-triangle, groups-holding}

-- ---- edges of triangles within five vertices

pub three-edges : (t : List ℕ) → length t ≡ 3 → length (combos t 2) ≡ 3
unfolding combos
three-edges (a ∷ b ∷ c ∷ []) h = refl
three-edges [] h = absurd (omega arith)
three-edges (a ∷ []) h = absurd (omega arith)
three-edges (a ∷ b ∷ []) h = absurd (omega arith)
three-edges (a ∷ b ∷ c ∷ d ∷ t) h = absurd (omega arith)

-- the table of places is right
all_edges : (p : List ℕ) → length p ≡ 5 → map (map (λ j. get_or (combos p 2) j [])) edge_places ≡ map (λ t. combos t 2) (combos p 3)
unfolding combos
all_edges p h = rw (five-of p h) refl

three-places : (q : ℕ) → q < 10 → length (get_or edge_places q []) ≡ 3
three-places q h =
    sym (get_or-map length edge_places q [] 0 h) ∙ get_or-replicate 10 q 3 0 h

pub one-edge : (p : List ℕ) → length p ≡ 5 → (b i : ℕ) → b < 10 → i < 3 → get_or (combos p 2) (get_or (get_or edge_places b []) i 0) [] ≡ get_or (combos (get_or (combos p 3) b []) 2) i []
one-edge p h b i hb hi =
    sym (get_or-map (λ j. get_or (combos p 2) j []) (get_or edge_places b []) i 0 [] (rw (three-places b hb) hi))
    ∙ ap (λ (r : List (List ℕ)). get_or r i [])
    (sym (get_or-map (map (λ j. get_or (combos p 2) j [])) edge_places b [] [] hb) ∙ ap (λ (l : List (List (List ℕ))). get_or l b []) (all_edges p h)
    ∙ get_or-map (λ t. combos t 2) (combos p 3) b [] [] (omega (arith, count-faces Triangle p h)))

-- ---- face numbers

pub length-numbers : (ps : List (List ℕ)) → Wide 5 ps → (f : Face) → length (numbers_of f ps) ≡ count_of f * length ps
unfolding numbers_of
length-numbers ps five f = length-map (met_faces f ps) (λ s. find s (faces f ps)) ∙ length-met f ps five

module _ (ps : List (List ℕ)) (five : Wide 5 ps) (up : Sorted ps) where
  -- face b of pentachoron a
  met_at : (f : Face) (a b : ℕ) → a < length ps → b < count_of f → get_or (met_faces f ps) (count_of f * a + b) [] ≡ get_or (faces_of f (get_or ps a [])) b []
  unfolding met_faces
  met_at f a b ha hb = gather-at (faces_of f) (count_of f) ps [] [] (λ p m. count-faces f p (five p m)) a b ha hb

  numbers-at : (f : Face) (k : ℕ) → k < count_of f * length ps → get_or (numbers_of f ps) k 0 ≡ find (get_or (met_faces f ps) k []) (faces f ps)
  unfolding numbers_of
  numbers-at f k h = get_or-map (λ s. find s (faces f ps)) (met_faces f ps) k [] 0 (omega (arith, length-met f ps five))

  -- the k-th face that is met is there
  met-found : (f : Face) (k : ℕ) → k < count_of f * length ps → Memᴰ (get_or (met_faces f ps) k []) (faces f ps)
  unfolding faces
  met-found f k h = firsts_has (met_faces f ps) (get_or-mem (met_faces f ps) k [] (omega (arith, length-met f ps five)))

  pub numbers-below : (f : Face) → Below (numbers_of f ps) (length (faces f ps))
  numbers-below f k h =
      let b : k < count_of f * length ps = omega (arith, length-numbers ps five f) in
      omega (arith, numbers-at f k b, find-mem (get_or (met_faces f ps) k []) (faces f ps) (met-found f k b))

  -- each face is met
  pub face-met : (f : Face) (t : ℕ) → t < length (faces f ps) → (k : ℕ) × (k < length (numbers_of f ps)) × (get_or (numbers_of f ps) k 0 ≡ t)
  unfolding faces
  face-met f t h =
      let m = mem-get_or [] (firsts-only (met_faces f ps) (get_or-mem (faces f ps) t [] h)) in
      let b : m.0 < count_of f * length ps = omega (arith, m.1, length-met f ps five) in
      (m.0, omega (arith, length-numbers ps five f), numbers-at f m.0 b ∙ ap (λ (s : List ℕ). find s (faces f ps)) m.2 ∙ faces-distinct f ps t h)

  -- the face that has the number of the k-th that is met
  number_face : (f : Face) (k : ℕ) → k < count_of f * length ps → get_or (faces f ps) (get_or (numbers_of f ps) k 0) [] ≡ get_or (met_faces f ps) k []
  number_face f k h =
      ap (λ (t : ℕ). get_or (faces f ps) t []) (numbers-at f k h)
      ∙ find-get (get_or (met_faces f ps) k []) (faces f ps) (find-mem (get_or (met_faces f ps) k []) (faces f ps) (met-found f k h))

  -- edge i of the triangle that is met as the k-th
  edge-at-is : (k i : ℕ) → k < 10 * length ps → i < 3 → edge_at (numbers_of Edge ps) k i ≡ find (get_or (combos (get_or (triangles ps) (get_or (numbers_of Triangle ps) k 0) []) 2) i []) (edges ps)
  unfolding edge_at
  edge-at-is k i hk hi =
      let a : k / 10 < length ps = omega arith in
      let b : k % 10 < 10 = omega arith in
      let p = get_or ps (k / 10) [] in
      let h : length p ≡ 5 = five p (get_or-mem ps (k / 10) [] a) in
      let e = place-below (k % 10) i in
      let z : 10 * (k / 10) + k % 10 ≡ k = omega arith in
      let t : get_or (met_faces Triangle ps) k [] ≡ get_or (combos p 3) (k % 10) [] = ap (λ (j : ℕ). get_or (met_faces Triangle ps) j []) (sym z) ∙ met_at Triangle (k / 10) (k % 10) a b in
      numbers-at Edge (10 * (k / 10) + get_or (get_or edge_places (k % 10) []) i 0) (omega arith)
      ∙ ap (λ (s : List ℕ). find s (edges ps))
      (met_at Edge (k / 10) (get_or (get_or edge_places (k % 10) []) i 0) a e ∙ one-edge p h (k % 10) i b hi ∙ ap (λ (s : List ℕ). get_or (combos s 2) i []) (sym t ∙ sym (number_face Triangle k hk)))

  -- ---- what the adjacency asks

  pub consistent : (room : ℕ) → 3 * length (triangles ps) ≤ room → Consistent (numbers_of Edge ps) (numbers_of Triangle ps) room
  consistent room h =
      record {
        whole = omega (arith, length-numbers ps five Triangle);
        alike = length-numbers ps five Edge ∙ sym (length-numbers ps five Triangle);
        places = λ k l. omega (arith, numbers-below Triangle k l);
        same = λ j k i hj hk hi e.
            edge-at-is j i (omega (arith, length-numbers ps five Triangle)) hi
            ∙ ap (λ (t : ℕ). find (get_or (combos (get_or (triangles ps) t []) 2) i []) (edges ps)) e
            ∙ sym (edge-at-is k i (omega (arith, length-numbers ps five Triangle)) hi);
      }

  pub faces-few : (f : Face) → length (faces f ps) ≤ count_of f * length ps
  unfolding faces
  faces-few f = omega (arith, firsts-room (met_faces f ps), length-met f ps five)

  -- ---- the three lists

  pub keyed-triangles : Keyed (triangles ps) 3 10 ps
  keyed-triangles =
      record {
        distinct = faces-distinct Triangle ps;
        rising = λ s m. face-rising Triangle ps up m;
        sorted = up;
        size = λ p m. count-faces Triangle p (five p m);
        found = λ p s m n. faces_has Triangle ps m n;
      }

  pub keyed-edges : Keyed (edges ps) 2 10 ps
  keyed-edges =
      record {
        distinct = faces-distinct Edge ps;
        rising = λ s m. face-rising Edge ps up m;
        sorted = up;
        size = λ p m. count-faces Edge p (five p m);
        found = λ p s m n. faces_has Edge ps m n;
      }

  triangle-size : (t : List ℕ) → Memᴰ t (triangles ps) → length (combos t 2) ≡ 3
  triangle-size t m = three-edges t (face-rising Triangle ps up m).1

  pub keyed-triangle-edges : Keyed (edges ps) 2 3 (triangles ps)
  keyed-triangle-edges =
      record {
        distinct = faces-distinct Edge ps;
        rising = λ s m. face-rising Edge ps up m;
        sorted = λ t m. (face-rising Triangle ps up m).0;
        size = triangle-size;
        found = λ t s m n. edge-of-triangle ps up m n;
      }

  pub tri_to_pents_lem : groups 10 (length (triangles ps)) (numbers_of Triangle ps) ≡ tri_to_pents ps
  unfolding numbers_of met_faces tri_to_pents
  tri_to_pents_lem =
      ap (groups 10 (length (triangles ps))) (map-gather (λ s. find s (triangles ps)) (faces_of Triangle) ps)
      ∙ groups-holding (triangles ps) 3 10 ps keyed-triangles (omega arith)

  pub edge_to_pents_lem : groups 10 (length (edges ps)) (numbers_of Edge ps) ≡ edge_to_pents ps
  unfolding numbers_of met_faces edge_to_pents
  edge_to_pents_lem =
      ap (groups 10 (length (edges ps))) (map-gather (λ s. find s (edges ps)) (faces_of Edge) ps)
      ∙ groups-holding (edges ps) 2 10 ps keyed-edges (omega arith)

  edge_to_tris_lem : groups 3 (length (edges ps)) (gather (row_numbers (edges ps) 2) (triangles ps)) ≡ edge_to_tris ps
  unfolding edge_to_tris
  edge_to_tris_lem = groups-holding (edges ps) 2 3 (triangles ps) keyed-triangle-edges (omega arith)

  -- the edges of triangles as they were stored
  module _ (te : List ℕ) (room : 3 * length (triangles ps) ≤ length te) (edges-of : EdgesOf (numbers_of Edge ps) (numbers_of Triangle ps) te (length (numbers_of Triangle ps))) where
    T : ℕ
    T = length (triangles ps)

    rows_long : (t : List ℕ) → Memᴰ t (triangles ps) → length (row_numbers (edges ps) 2 t) ≡ 3
    rows_long t m = length-map (combos t 2) (λ s. find s (edges ps)) ∙ triangle-size t m

    whole : length (take (3 * T) te) ≡ length (gather (row_numbers (edges ps) 2) (triangles ps))
    unfolding T
    whole = lib.Seq.length-take-le (3 * T) te room ∙ sym (length-gather (row_numbers (edges ps) 2) 3 (triangles ps) rows_long)

    entry : (q : ℕ) → q < 3 * T → get_or (take (3 * T) te) q 0 ≡ get_or (gather (row_numbers (edges ps) 2) (triangles ps)) q 0
    unfolding T
    entry q h =
        let t : q / 3 < T = omega arith in
        let i : q % 3 < 3 = omega arith in
        let z : 3 * (q / 3) + q % 3 ≡ q = omega arith in
        let m = face-met Triangle (q / 3) t in
        let e : get_or te q 0 ≡ find (get_or (combos (get_or (triangles ps) (q / 3) []) 2) (q % 3) []) (edges ps) =
        ap (λ (j : ℕ). get_or te j 0) (sym z) ∙ ap (λ (u : ℕ). get_or te (3 * u + q % 3) 0) (sym m.2)
        ∙ edges-of.edge m.0 (q % 3) m.1 i ∙ edge-at-is m.0 (q % 3) (omega (arith, m.1, length-numbers ps five Triangle)) i
        ∙ ap (λ (u : ℕ). find (get_or (combos (get_or (triangles ps) u []) 2) (q % 3) []) (edges ps)) m.2 in
        get_or-take (3 * T) te q 0 h ∙ e
        ∙ sym (ap (λ (j : ℕ). get_or (gather (row_numbers (edges ps) 2) (triangles ps)) j 0) (sym z)
        ∙ gather-at (row_numbers (edges ps) 2) 3 (triangles ps) [] 0 rows_long (q / 3) (q % 3) t i
        ∙ get_or-map (λ s. find s (edges ps)) (combos (get_or (triangles ps) (q / 3) []) 2) (q % 3) [] 0 (omega (arith, triangle-size (get_or (triangles ps) (q / 3) []) (get_or-mem (triangles ps) (q / 3) [] t))))

    pub edge-to-tris-stored : groups 3 (length (edges ps)) (take (3 * length (triangles ps)) te) ≡ edge_to_tris ps
    unfolding T
    edge-to-tris-stored =
        ap (groups 3 (length (edges ps)))
        (ext_get_or 0 (take (3 * T) te) (gather (row_numbers (edges ps) 2) (triangles ps)) whole (λ q h. entry q (omega (arith, lib.Seq.length-take-le (3 * T) te room))))
        ∙ edge_to_tris_lem
