-- Faces that lie in each other, by their numbers: parts of the adjacency lists, rows of ten numbers, and the tables of places. Assumes nothing.
use Rattle.std.specs.Prelude.{Option, Some, None, ◌≢◌}
use Rattle.std.specs.Option.{IsSome, MatchOption}
use Rattle.std.specs.List.{AllWithin, HoldsAt}
use Prim.Native.Nat.{ℕ, ◌+◌, ◌*◌, ◌/◌, ◌%◌, ◌≤◌, ◌<◌}
use mathlib.Core.Path.{◌≡◌, refl, sym, ap, ◌∙◌, subst}
use mathlib.Core.Bool.{true}
use mathlib.Core.List.{List, [], ◌∷◌, map, Memᴰ}
use native.Mathlib.Omega.{arith}
use lib.ListN.{length, get_or, take, drop, length-map}
use borrow.Author.Tests.{eq-eqb, ne_eqb}
use Rattle.lists.specs.Lists.{keep, gather, upto, combos, among, Within, Rising}
use Rattle.lists.specs.Keys.{find}
use Rattle.lists.specs.Rows.{flat, rows, Wide, starts, begins}
use Rattle.lists.proofs.Tests.{said, passes, and-true}
use Rattle.lists.proofs.Elements.{get_or-mem, mem-get_or, get_or-map, length-gather, map-gather, among-says}
use Rattle.lists.proofs.Keys.{find-get}
use Rattle.lists.proofs.Choices.{combos-within, combos-rising, combos_has}
use Rattle.lists.proofs.Rows.{rows_at, row_below, rows-begins, rows-wide, length-rows, begins-says, begins-long, flat_map, part, begun-fits, begun-part}
use Rattle.complex.specs.declared.AdjacencyList.{AdjacencyList}
use Rattle.complex.specs.declared.Complex.{Complex}
use Rattle.complex.specs.declared.Incidence.{Incidence}
use Rattle.complex.specs.declared.numbering.Face.TheVariants.{Edge, Triangle}
use Rattle.complex.specs.Complex.{edges, triangles, met_faces, faces_of, numbers_of, holding, row_numbers}
use Rattle.complex.specs.Check.{holds}
use Rattle.complex.specs.Lent.{pents_of, edges_of, triangles_of, IsHolding}
use Rattle.complex.specs.Parts.{edge_places, edge_at}
use Rattle.incidence.specs.declared.Opposite.{Opposite}
use Rattle.incidence.specs.Incidence.{HasEdgeNumbers, HasTriangleNumbers, Simplices, Lie, index_list, opposite_indices}
use Rattle.complex.proofs.Meetings.{count-faces}
use Rattle.complex.proofs.TriangleEdges.{place-below}
use Rattle.complex.proofs.Lying.{Sorted, faces-distinct, faces-only, face-rising, mem-holding, holding-mem}
use Rattle.complex.proofs.FaceNumbers.{three-edges, one-edge}

-- ---- parts of items

-- the lists of the rows in which each key lies
module _ (rs keys : List (List ℕ)) (a : AdjacencyList) (ok : IsHolding rs keys a) (i : ℕ) (h : i < length keys) where
  gs : List (List ℕ)
  gs = map (holding rs) keys

  among_gs : i < length gs
  unfolding gs
  among_gs = rw (length-map keys (holding rs)) h

  both : (begins (flat gs) a.items.now ≡ true) × (begins (starts gs) a.starts.now ≡ true)
  unfolding holds gs
  both = and-true (begins (flat gs) a.items.now) (begins (starts gs) a.starts.now) ok

  items_begin : take (length (flat gs)) a.items.now ≡ flat gs
  items_begin = said (begins-says (flat gs) a.items.now) both.0

  starts_begin : take (length (starts gs)) a.starts.now ≡ starts gs
  starts_begin = said (begins-says (starts gs) a.starts.now) both.1

  -- key i's items lie within the list
  pub holders-fit : (i + 1 < length a.starts.now) × (get_or a.starts.now i 0 ≤ get_or a.starts.now (i + 1) 0) × (get_or a.starts.now (i + 1) 0 ≤ length a.items.now)
  holders-fit = begun-fits gs a.items.now a.starts.now items_begin starts_begin i among_gs

  -- and are the numbers of the rows in which it lies
  pub holders-are : part a.starts.now a.items.now i ≡ holding rs (get_or keys i [])
  unfolding gs
  holders-are = begun-part gs a.items.now a.starts.now items_begin starts_begin i among_gs ∙ get_or-map (holding rs) keys i [] [] h

-- ---- rows of ten

ten_faces : (keys : List (List ℕ)) (p : List ℕ) → length p ≡ 5 → (length (row_numbers keys 2 p) ≡ 10) × (length (row_numbers keys 3 p) ≡ 10)
ten_faces keys p h = (
  length-map (combos p 2) (λ s. find s keys) ∙ count-faces Edge p h,
  length-map (combos p 3) (λ s. find s keys) ∙ count-faces Triangle p h,
)

-- a list that begins with rows of w numbers has row i from w i on
row_in : (w : ℕ) (f : List ℕ → List ℕ) (ps : List (List ℕ)) (numbers : List ℕ) → ((p : List ℕ) → Memᴰ p ps → length (f p) ≡ w) → begins (gather f ps) numbers ≡ true → (i : ℕ) → i < length ps
    → (w * i + w ≤ length numbers) × (take w (drop (w * i) numbers) ≡ f (get_or ps i []))
row_in w f ps numbers wide ok i h =
    let n : length (gather f ps) ≡ w * length ps = length-gather f w ps wide in
    let e : rows w (length (map f ps)) numbers ≡ map f ps = rows-begins w (map f ps) numbers wide-map (rw (flat_map f ps) (said (begins-says (gather f ps) numbers) ok)) in (
      omega (arith, row_below w i (length ps) h, begins-long (gather f ps) numbers (said (begins-says (gather f ps) numbers) ok)),
      sym (rows_at w (length ps) numbers i h) ∙ ap (λ (m : ℕ). get_or (rows w m numbers) i []) (sym (length-map ps f)) ∙ ap (λ (l : List (List ℕ)). get_or l i []) e ∙ get_or-map f ps i [] [] h,
    )
  where
    wide-map : Wide w (map f ps)
    wide-map x m = let q : (p : List ℕ) × Memᴰ p ps × (f p ≡ x) = mathlib.Core.List.Memᴰ.of_map f ps m in ap length (sym q.2) ∙ wide q.0 q.1

module _ (x : Complex) (n : Incidence) (p : ℕ) (h : p < x.counts.pentachorons) where
  inside : p < length (pents_of x)
  inside = rw (length-rows 5 x.counts.pentachorons x.pents.now) h

  -- the ten edge numbers of pentachoron p
  pub ten-edges : HasEdgeNumbers x n → (10 * p + 10 ≤ length n.pent_edges.now) × (take 10 (drop (10 * p) n.pent_edges.now) ≡ row_numbers (edges_of x) 2 (get_or (pents_of x) p []))
  ten-edges ok = row_in 10 (row_numbers (edges_of x) 2) (pents_of x) n.pent_edges.now (λ r m. (ten_faces (edges_of x) r (rows-wide 5 x.counts.pentachorons x.pents.now ok.room r m)).0) ok.noted p inside

  -- its ten triangle numbers
  pub ten-triangles : HasTriangleNumbers x n → (10 * p + 10 ≤ length n.pent_tris.now) × (take 10 (drop (10 * p) n.pent_tris.now) ≡ row_numbers (triangles_of x) 3 (get_or (pents_of x) p []))
  ten-triangles ok = row_in 10 (row_numbers (triangles_of x) 3) (pents_of x) n.pent_tris.now (λ r m. (ten_faces (triangles_of x) r (rows-wide 5 x.counts.pentachorons x.pents.now ok.room r m)).1) ok.noted p inside

-- ---- a triangle in a pentachoron

-- a number that is among others has a place
pub sought-found : (n : ℕ) (l : List ℕ) (r : Option ℕ) → among n l ≡ true → MatchOption r (AllWithin (λ v. v ≢ n) l 0 (length l)) (λ i. (i < length l) × HoldsAt (λ v. v ≡ n) l i × AllWithin (λ v. v ≢ n) l 0 i) → IsSome r
sought-found n l (Some i) m h = refl
sought-found n l None m h = let w = mem-get_or 0 (said (among-says n l) m) in absurd (h w.0 0 (omega arith) w.1 w.2)

-- a triangle lies in the first pentachoron of its list
pub first_holder : (x : Complex) → Lie (pents_of x) (triangles_of x) → (t : ℕ) → t < x.counts.triangles → (hs : List ℕ) → hs ≡ holding (pents_of x) (get_or (triangles_of x) t [])
    → (0 < length hs) × (get_or hs 0 0 < x.counts.pentachorons) × Within (get_or (triangles_of x) t []) (get_or (pents_of x) (get_or hs 0 0) [])
first_holder x lie t h hs e =
    let ps = pents_of x in
    let s = get_or (triangles_of x) t [] in
    let l : (p : List ℕ) × Memᴰ p ps × Within s p = lie s (get_or-mem (triangles_of x) t [] (rw (length-rows 3 x.counts.triangles x.triangles.now) h)) in
    let i : (i : ℕ) × (i < length ps) × (get_or ps i [] ≡ l.0) = mem-get_or [] l.1 in
    let m : Memᴰ i.0 (holding ps s) = holding-mem ps s i.1 (subst (Within s) (sym i.2) l.2) in
    let k : (j : ℕ) × (j < length (holding ps s)) × (get_or (holding ps s) j 0 ≡ i.0) = mem-get_or 0 m in
    let pos : 0 < length (holding ps s) = omega (arith, k.1) in
    let f = mem-holding ps s (get_or-mem (holding ps s) 0 0 pos) in
    rw e (pos, omega (arith, f.0, length-rows 5 x.counts.pentachorons x.pents.now), f.1)

-- ---- the tables of places

three-of : (l : List ℕ) → length l ≡ 3 → l ≡ get_or l 0 0 ∷ get_or l 1 0 ∷ get_or l 2 0 ∷ []
three-of (a ∷ b ∷ c ∷ []) h = refl
three-of [] h = absurd (omega arith)
three-of (a ∷ []) h = absurd (omega arith)
three-of (a ∷ b ∷ []) h = absurd (omega arith)
three-of (a ∷ b ∷ c ∷ d ∷ l) h = absurd (omega arith)

-- the local indices of the two vertices that are not in it, for each of the ten triangles of a pentachoron
abbrev opposites : List Opposite
opposites =
    record { l = 3; m = 4 }
    ∷ record { l = 2; m = 4 }
    ∷ record { l = 2; m = 3 }
    ∷ record { l = 1; m = 4 }
    ∷ record { l = 1; m = 3 }
    ∷ record { l = 1; m = 2 }
    ∷ record { l = 0; m = 4 }
    ∷ record { l = 0; m = 3 }
    ∷ record { l = 0; m = 2 }
    ∷ record { l = 0; m = 1 }
    ∷ []

-- the table of opposite vertices is right
five-opposites : (a b c d e : ℕ) → a < b → b < c → c < d → d < e → map (opposite_indices (a ∷ b ∷ c ∷ d ∷ e ∷ [])) (combos (a ∷ b ∷ c ∷ d ∷ e ∷ []) 3) ≡ map index_list opposites
unfolding combos opposite_indices keep upto among
five-opposites a b c d e ab bc cd de =
    rw (
      eq-eqb a a refl,
      eq-eqb b b refl,
      eq-eqb c c refl,
      eq-eqb d d refl,
      eq-eqb e e refl,
      ne_eqb a b (λ x. omega arith),
      ne_eqb a c (λ x. omega arith),
      ne_eqb a d (λ x. omega arith),
      ne_eqb a e (λ x. omega arith),
      ne_eqb b c (λ x. omega arith),
      ne_eqb b d (λ x. omega arith),
      ne_eqb b e (λ x. omega arith),
      ne_eqb c d (λ x. omega arith),
      ne_eqb c e (λ x. omega arith),
      ne_eqb d e (λ x. omega arith),
      ne_eqb b a (λ x. omega arith),
      ne_eqb c a (λ x. omega arith),
      ne_eqb d a (λ x. omega arith),
      ne_eqb e a (λ x. omega arith),
      ne_eqb c b (λ x. omega arith),
      ne_eqb d b (λ x. omega arith),
      ne_eqb e b (λ x. omega arith),
      ne_eqb d c (λ x. omega arith),
      ne_eqb e c (λ x. omega arith),
      ne_eqb e d (λ x. omega arith),
    )
    refl

all-opposites : (p : List ℕ) → length p ≡ 5 → Rising p → map (opposite_indices p) (combos p 3) ≡ map index_list opposites
all-opposites (a ∷ b ∷ c ∷ d ∷ e ∷ []) h r =
    five-opposites a b c d e (r.0 b (mathlib.Core.List.Memᴰ.head refl)) (r.1.0 c (mathlib.Core.List.Memᴰ.head refl)) (r.1.1.0 d (mathlib.Core.List.Memᴰ.head refl)) (r.1.1.1.0 e (mathlib.Core.List.Memᴰ.head refl))
all-opposites [] h r = absurd (omega arith)
all-opposites (a ∷ []) h r = absurd (omega arith)
all-opposites (a ∷ b ∷ []) h r = absurd (omega arith)
all-opposites (a ∷ b ∷ c ∷ []) h r = absurd (omega arith)
all-opposites (a ∷ b ∷ c ∷ d ∷ []) h r = absurd (omega arith)
all-opposites (a ∷ b ∷ c ∷ d ∷ e ∷ f ∷ p) h r = absurd (omega arith)

-- pentachoron p and triangle t of a complex, with the ten triangle numbers of p
module _ (x : Complex) (ok : Simplices (pents_of x) (triangles_of x)) (room : 5 * x.counts.pentachorons ≤ length x.pents.now) (p t : ℕ) (in-pents : p < x.counts.pentachorons) (in-triangles : t < x.counts.triangles) (tris : List ℕ) (own : tris ≡ row_numbers (triangles_of x) 3 (get_or (pents_of x) p [])) where
  pent : List ℕ
  pent = get_or (pents_of x) p []

  ts : List (List ℕ)
  ts = triangles_of x

  pent-mem : Memᴰ pent (pents_of x)
  unfolding pent
  pent-mem = get_or-mem (pents_of x) p [] (rw (length-rows 5 x.counts.pentachorons x.pents.now) in-pents)

  five : length pent ≡ 5
  five = rows-wide 5 x.counts.pentachorons x.pents.now room pent pent-mem

  up : Rising pent
  up = ok.pentachoron pent pent-mem

  known : t < length ts
  unfolding ts
  known = rw (length-rows 3 x.counts.triangles x.triangles.now) in-triangles

  -- p has ten edge numbers
  pub ten-own : (es : List (List ℕ)) (ten : List ℕ) → ten ≡ row_numbers es 2 (get_or (pents_of x) p []) → length ten ≡ 10
  unfolding pent
  ten-own es ten e = ap length e ∙ (ten_faces es pent five).0

  -- t is among the triangle numbers where it lies in p
  pub own-triangle : Within (get_or (triangles_of x) t []) (get_or (pents_of x) p []) → among t tris ≡ true
  unfolding pent ts
  own-triangle w =
      let s = get_or ts t [] in
      let g : Rising s × (length s ≡ 3) = ok.triangle s (get_or-mem ts t [] known) in
      ap (among t) own
      ∙ passes (among-says t (row_numbers ts 3 pent)) (mathlib.Core.List.Memᴰ.cast (sym (ok.distinct t known)) (mathlib.Core.List.Memᴰ.map (λ s. find s ts) (combos_has pent 3 s up g.0 g.1 w)))

  -- t stands at place q among the triangle numbers
  module _ (q : ℕ) (inside : q < length tris) (at : get_or tris q 0 ≡ t) where
    pub below-ten : q < 10
    unfolding pent ts
    below-ten = omega (arith, ap length own, (ten_faces ts pent five).1)

    among-ten : q < length (combos pent 3)
    among-ten = omega (arith, below-ten, count-faces Triangle pent five)

    q_th : get_or (combos pent 3) q [] ≡ get_or ts t []
    unfolding pent ts
    q_th =
        let s = get_or (combos pent 3) q [] in
        let f : find s ts ≡ t = sym (get_or-map (λ s. find s ts) (combos pent 3) q [] 0 among-ten) ∙ ap (λ (l : List ℕ). get_or l q 0) (sym own) ∙ at in
        sym (find-get s ts (omega (arith, known))) ∙ ap (λ (i : ℕ). get_or ts i []) f

    three : length (combos (get_or (combos pent 3) q []) 2) ≡ 3
    three = three-edges (get_or (combos pent 3) q []) (combos-rising pent 3 up (get_or-mem (combos pent 3) q [] among-ten)).1

    -- its edge i, by the ten edge numbers of p
    edge-own : (es : List (List ℕ)) (i : ℕ) → i < 3 → edge_at (row_numbers es 2 pent) q i ≡ get_or (row_numbers es 2 (get_or ts t [])) i 0
    unfolding edge_at
    edge-own es i h =
        let e : 10 * (q / 10) + get_or (get_or edge_places (q % 10) []) i 0 ≡ get_or (get_or edge_places q []) i 0 =
        let z : q % 10 ≡ q = omega (arith, below-ten) in
        let y : q / 10 ≡ 0 = omega (arith, below-ten) in
        rw (z, y) (omega arith) in
        ap (λ (j : ℕ). get_or (row_numbers es 2 pent) j 0) e
        ∙ get_or-map (λ s. find s es) (combos pent 2) (get_or (get_or edge_places q []) i 0) [] 0 (omega (arith, place-below q i, count-faces Edge pent five))
        ∙ ap (λ (s : List ℕ). find s es) (one-edge pent five q i below-ten h)
        ∙ sym (get_or-map (λ s. find s es) (combos (get_or (combos pent 3) q []) 2) i [] 0 (omega (arith, three)))
        ∙ ap (λ (s : List ℕ). get_or (row_numbers es 2 s) i 0) q_th

    -- its three edges
    pub edges-own : (es : List (List ℕ)) (ten : List ℕ) → ten ≡ row_numbers es 2 (get_or (pents_of x) p []) → edge_at ten q 0 ∷ edge_at ten q 1 ∷ edge_at ten q 2 ∷ [] ≡ row_numbers es 2 (get_or (triangles_of x) t [])
    unfolding pent ts
    edges-own es ten e =
        let s = get_or ts t [] in
        let n : length (row_numbers es 2 s) ≡ 3 = length-map (combos s 2) (λ s. find s es) ∙ (rw q_th at three) in
        rw (e, edge-own es 0 (omega arith), edge-own es 1 (omega arith), edge-own es 2 (omega arith)) (sym (three-of (row_numbers es 2 s) n))

    -- the vertices of p that are not in it
    pub opposite-own : index_list (get_or opposites q (record { l = 0; m = 0 })) ≡ opposite_indices (get_or (pents_of x) p []) (get_or (triangles_of x) t [])
    unfolding pent ts
    opposite-own =
        sym (get_or-map index_list opposites q (record { l = 0; m = 0 }) [] below-ten) ∙ ap (λ (l : List (List ℕ)). get_or l q []) (sym (all-opposites pent five up)) ∙ get_or-map (opposite_indices pent) (combos pent 3) q [] [] among-ten
        ∙ ap (opposite_indices pent) q_th

-- ---- the faces of sorted pentachorons

-- the numbers of all faces are those of each pentachoron's
pub edge_numbers : (ps : List (List ℕ)) → numbers_of Edge ps ≡ gather (row_numbers (edges ps) 2) ps
unfolding numbers_of met_faces
edge_numbers ps = map-gather (λ s. find s (edges ps)) (faces_of Edge) ps

pub triangle-numbers : (ps : List (List ℕ)) → numbers_of Triangle ps ≡ gather (row_numbers (triangles ps) 3) ps
unfolding numbers_of met_faces
triangle-numbers ps = map-gather (λ s. find s (triangles ps)) (faces_of Triangle) ps

-- the triangles of sorted pentachorons
pub simplices-of : (ps : List (List ℕ)) → Sorted ps → Simplices ps (triangles ps)
simplices-of ps up = record { pentachoron = up; triangle = λ t m. face-rising Triangle ps up m; distinct = faces-distinct Triangle ps }

pub lie-of : (ps : List (List ℕ)) → Lie ps (triangles ps)
lie-of ps t m =
    let w : (p : List ℕ) × Memᴰ p ps × Memᴰ t (faces_of Triangle p) = faces-only Triangle ps m in
    (w.0, w.1, combos-within w.0 3 w.2)
