-- The parts of the check behind refusal 7, joined: what they ask, and that together they say that a complex is built. Assumes nothing.
use Prim.Native.Nat.{ℕ, ◌*◌, ◌/◌, ◌≤◌}
use mathlib.Core.Path.{◌≡◌, refl, sym, ap, ◌∙◌}
use mathlib.Core.Bool.{Bool, true, false, not, ◌&&◌}
use mathlib.Core.List.{List, ◌++◌}
use native.Mathlib.Nat.{mul-le-mul_right}
use native.Mathlib.Omega.{arith}
use lib.Dec.{eqb, leb}
use lib.ListN.{length, take, drop}
use borrow.Author.Tests.{leb-true, le-leb, eqb-false, ne_eqb, not-true}
use Rattle.lists.specs.Rows.{Wide, over, begins}
use Rattle.lists.proofs.Tests.{says-by, says_same, said, passes, and-true, not-both}
use Rattle.lists.proofs.Rows.{length-rows, rows-wide, drop-later, begins-says, begins-long, begins-over}
use Rattle.complex.specs.declared.Counts.{Counts}
use Rattle.complex.specs.declared.numbering.Face.{Face}
use Rattle.complex.specs.declared.numbering.Face.TheVariants.{Edge, Triangle, Tet}
use Rattle.lists.specs.declared.flat_rows.FlatRows.{FlatRows}
use Rattle.lists.specs.Lent.{rows_of}
use Rattle.complex.specs.Complex.{count_of, edges, triangles, numbers_of}
use Rattle.complex.specs.Builder.{Lists}
use Rattle.complex.specs.Check.{pents_in, edges_in, triangles_in, given_of, holds, is_built}
use Rattle.comparison.specs.CheckParts.{all_rise, has_pents, has_faces, has_all_faces, has_adjacency}
use Rattle.comparison.specs.Parts.{Noted, Noting, Holdable, Faced}
use Rattle.complex.proofs.Meetings.{count-le}
use Rattle.complex.proofs.FaceNumbers.{length-numbers}
use Rattle.comparison.proofs.FaceLists.{has-says, has-rows, has_room}
use Rattle.comparison.proofs.Rises.{all-rise-says}
use Rattle.comparison.proofs.Holdings.{tri-to-pents-total, edge-to-tris-total, edge-to-pents-total}
use Rattle.comparison.proofs.BuiltComplex.{IsBuilt, positive, built-says, built-wide, given-long}

-- ---- adjacency

module _ (c : Counts) (l : Lists) (ok : Faced c l) where
  edge-rows : edges_in c l.edges ≡ edges (pents_in c l.pents)
  edge-rows = has-rows Edge (pents_in c l.pents) c.edges l.edges (said (has-says Edge (pents_in c l.pents) c.edges l.edges) ok.edges)

  triangle-rows : triangles_in c l.triangles ≡ triangles (pents_in c l.pents)
  triangle-rows = has-rows Triangle (pents_in c l.pents) c.triangles l.triangles (said (has-says Triangle (pents_in c l.pents) c.triangles l.triangles) ok.triangles)

  pub edge-room : 2 * c.edges ≤ length l.edges
  edge-room = has_room Edge (pents_in c l.pents) c.edges l.edges (said (has-says Edge (pents_in c l.pents) c.edges l.edges) ok.edges)

  pub triangle-room : 3 * c.triangles ≤ length l.triangles
  triangle-room = has_room Triangle (pents_in c l.pents) c.triangles l.triangles (said (has-says Triangle (pents_in c l.pents) c.triangles l.triangles) ok.triangles)

  five : Wide 5 (pents_in c l.pents)
  five = rows-wide 5 c.pentachorons l.pents ok.long

  -- what each comparison asks of its keys and rows
  pub tri-to-pents-asks : (keys rs : FlatRows) → rows_of keys ≡ triangles_in c l.triangles → rows_of rs ≡ pents_in c l.pents → Holdable keys rs (10 * c.pentachorons)
  tri-to-pents-asks keys rs k r =
      record {
        counted =
            rw (k, r, triangle-rows) (ap (λ (n : ℕ). 10 * n) (sym (length-rows 5 c.pentachorons l.pents)) ∙ sym (tri-to-pents-total (pents_in c l.pents) five ok.rise));
      }

  pub edge-to-tris-asks : (keys rs : FlatRows) → rows_of keys ≡ edges_in c l.edges → rows_of rs ≡ triangles_in c l.triangles → Holdable keys rs (3 * c.triangles)
  edge-to-tris-asks keys rs k r =
      record {
        counted =
            rw (k, r, edge-rows, triangle-rows)
            (ap (λ (n : ℕ). 3 * n) (sym (length-rows 3 c.triangles l.triangles) ∙ ap length triangle-rows) ∙ sym (edge-to-tris-total (pents_in c l.pents) five ok.rise));
      }

  pub edge-to-pents-asks : (keys rs : FlatRows) → rows_of keys ≡ edges_in c l.edges → rows_of rs ≡ pents_in c l.pents → Holdable keys rs (10 * c.pentachorons)
  edge-to-pents-asks keys rs k r =
      record {
        counted =
            rw (k, r, edge-rows) (ap (λ (n : ℕ). 10 * n) (sym (length-rows 5 c.pentachorons l.pents)) ∙ sym (edge-to-pents-total (pents_in c l.pents) five ok.rise));
      }

  -- what they say, by the faces
  pub adjacency-is : has_adjacency c l
      ≡ (holds (pents_in c l.pents) (triangles_in c l.triangles) l.tri_to_pents l.tri_to_pents_starts && holds (triangles_in c l.triangles) (edges_in c l.edges) l.edge_to_tris l.edge_to_tris_starts
      && holds (pents_in c l.pents) (edges_in c l.edges) l.edge_to_pents l.edge_to_pents_starts)
  unfolding has_adjacency
  adjacency-is = rw (edge-rows, triangle-rows) refl

-- ---- the whole

module _ (c : Counts) (l : Lists) where
  parts : Bool
  parts =
      has_pents c l && has_all_faces c l && has_adjacency c l

  -- the pentachoron list that passes
  pub pents_pass : has_pents c l ≡ true
      → (c.vertices ≡ 0 → ⊥) × (c.vertices ≤ 4096) × (c.pentachorons ≤ 8192) × (5 * c.pentachorons ≤ length l.pents) × (all_rise c.vertices (pents_in c l.pents) ≡ true)
  unfolding has_pents
  pents_pass h =
      let r = and-true _ (all_rise c.vertices (pents_in c l.pents)) h in
      let q = and-true _ (leb (5 * c.pentachorons) (length l.pents)) r.0 in
      let p = and-true _ (leb c.pentachorons 8192) q.0 in
      let n = and-true (not (eqb c.vertices 0)) (leb c.vertices 4096) p.0 in
      (eqb-false _ _ (not-true (eqb c.vertices 0) n.0), leb-true _ _ n.1, leb-true _ _ p.1, leb-true _ _ q.1, r.1)

  -- what the comparison of adjacency lists asks
  pub faced : has_pents c l ≡ true → has_all_faces c l ≡ true → Faced c l
  unfolding has_all_faces
  faced h g =
      let ps = pents_in c l.pents in
      let v = pents_pass h in
      let t = and-true _ (has_faces Triangle ps c.triangles l.triangles) g in
      let k = and-true (has_faces Tet ps c.tets l.tets) (has_faces Edge ps c.edges l.edges) t.0 in
      record { long = v.3; few = v.2; rise = λ p m. (said (all-rise-says c.vertices ps) v.4 p m).0; edges = k.1; triangles = t.1 }

  forward : parts ≡ true → IsBuilt c l
  unfolding parts has_all_faces has_adjacency
  forward h =
      let ps = pents_in c l.pents in
      let q = and-true _ (has_adjacency c l) h in
      let p = and-true (has_pents c l) (has_all_faces c l) q.0 in
      let v = pents_pass p.0 in
      let t = and-true _ (has_faces Triangle ps c.triangles l.triangles) p.1 in
      let k = and-true (has_faces Tet ps c.tets l.tets) (has_faces Edge ps c.edges l.edges) t.0 in
      let a = and-true _ (holds ps (edges ps) l.edge_to_pents l.edge_to_pents_starts) q.1 in
      let d = and-true (holds ps (triangles ps) l.tri_to_pents l.tri_to_pents_starts) (holds (triangles ps) (edges ps) l.edge_to_tris l.edge_to_tris_starts) a.0 in
      record {
        some_vertices = positive v.0;
        few_vertices = v.1;
        few = v.2;
        long = v.3;
        rise = said (all-rise-says c.vertices ps) v.4;
        has_edges = said (has-says Edge ps c.edges l.edges) k.1;
        has_triangles = said (has-says Triangle ps c.triangles l.triangles) t.1;
        has_tets = said (has-says Tet ps c.tets l.tets) k.0;
        tri_to_pents = d.0;
        edge_to_tris = d.1;
        edge_to_pents = a.1;
      }

  backward : IsBuilt c l → parts ≡ true
  unfolding parts has_pents has_all_faces has_adjacency
  backward b =
      let ps = pents_in c l.pents in
      rw (
        ne_eqb c.vertices 0 (λ e. omega (arith, b.some_vertices)),
        le-leb _ _ b.few_vertices,
        le-leb _ _ b.few,
        le-leb _ _ b.long,
        passes (all-rise-says c.vertices ps) b.rise,
        passes (has-says Tet ps c.tets l.tets) b.has_tets,
        passes (has-says Edge ps c.edges l.edges) b.has_edges,
        passes (has-says Triangle ps c.triangles l.triangles) b.has_triangles,
        b.tri_to_pents,
        b.edge_to_tris,
        b.edge_to_pents,
      )
      refl

  -- a complex is built where all parts of the check pass
  pub built-parts : is_built c l ≡ (has_pents c l && has_all_faces c l && has_adjacency c l)
  unfolding parts
  built-parts = says_same (λ b. b) (λ b. b) (built-says c l) (says-by parts forward backward)

-- ---- the numbers of edges and triangles

-- where the comparison answers true, both lists begin with their numbers
pub noted_of : {ps : List (List ℕ)} {r : Bool} {pe pt pe' pt' : List ℕ} → Noting ps r pe pt pe' pt' → r ≡ true → Noted ps pe' pt'
noted_of n t = record { edges = begins-over _ _ _ (n.edges t); triangles = begins-over _ _ _ (n.triangles t) }

-- where it answers false, both are kept after the first ten places for each pentachoron
pub noting_off : {ps : List (List ℕ)} {r : Bool} {pe pt pe' pt' : List ℕ} → r ≡ false → drop (10 * length ps) pe' ≡ drop (10 * length ps) pe → drop (10 * length ps) pt' ≡ drop (10 * length ps) pt → Noting ps r pe pt pe' pt'
noting_off off e t = record { edges = λ h. absurd (not-both h off); triangles = λ h. absurd (not-both h off); edges_kept = e; triangles_kept = t }

module _ (c : Counts) (l : Lists) (long : 5 * c.pentachorons ≤ length l.pents) where
  -- the numbers of faces of any kind end before ten places for each pentachoron
  pub faces-kept : (f : Face) (u u' : List ℕ) → drop (count_of f * (length (given_of c l) / 5)) u' ≡ drop (count_of f * (length (given_of c l) / 5)) u
      → drop (10 * length (pents_in c l.pents)) u' ≡ drop (10 * length (pents_in c l.pents)) u
  faces-kept f u u' e =
      let n : length (given_of c l) / 5 ≡ c.pentachorons = omega (arith, given-long c l long) in
      drop-later u' u (count_of f * c.pentachorons) (10 * length (pents_in c l.pents))
      (omega (arith, mul-le-mul_right c.pentachorons (count-le f), length-rows 5 c.pentachorons l.pents)) (rw n at e)

  -- the numbers of triangles cover what was written before those places
  pub triangles-over : (u₀ u u' : List ℕ) → drop (10 * length (pents_in c l.pents)) u ≡ drop (10 * length (pents_in c l.pents)) u₀
      → u' ≡ over (numbers_of Triangle (pents_in c l.pents)) u → u' ≡ over (numbers_of Triangle (pents_in c l.pents)) u₀
  unfolding over
  triangles-over u₀ u u' k e =
      let numbers = numbers_of Triangle (pents_in c l.pents) in
      let many : length numbers ≡ 10 * length (pents_in c l.pents) = length-numbers (pents_in c l.pents) (rows-wide 5 c.pentachorons l.pents long) Triangle in
      e ∙ ap (λ (r : List ℕ). numbers ++ r) (drop-later u u₀ (10 * length (pents_in c l.pents)) (length numbers) (omega (arith, many)) k)

module _ (c : Counts) (l : Lists) (b : IsBuilt c l) (f : Face) (ten : count_of f ≡ 10) (numbers : List ℕ) (noted : begins (numbers_of f (pents_in c l.pents)) numbers ≡ true) where
  many : length (numbers_of f (pents_in c l.pents)) ≡ 10 * c.pentachorons
  many = length-numbers (pents_in c l.pents) (built-wide c l b) f ∙ rw (ten, length-rows 5 c.pentachorons l.pents) refl

  front : take (length (numbers_of f (pents_in c l.pents))) numbers ≡ numbers_of f (pents_in c l.pents)
  front = said (begins-says (numbers_of f (pents_in c l.pents)) numbers) noted

  pub noted-long : 10 * c.pentachorons ≤ length numbers
  noted-long = omega (arith, many, begins-long (numbers_of f (pents_in c l.pents)) numbers front)

  noted-part : take (10 * c.pentachorons) numbers ≡ numbers_of f (pents_in c l.pents)
  noted-part = ap (λ (n : ℕ). take n numbers) (sym many) ∙ front

  -- what a copy of them leaves
  pub noted-after : (u part : List ℕ) → part ≡ take (10 * c.pentachorons) numbers → part ++ drop (10 * c.pentachorons) u ≡ over (numbers_of f (pents_in c l.pents)) u
  unfolding over
  noted-after u part e = rw (e ∙ noted-part, many) refl
