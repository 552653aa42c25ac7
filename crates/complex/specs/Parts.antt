-- What the parts of the builder ask and leave. Definitions only.
use Rattle.std.specs.Prelude.{ℕ, ◌+◌, ◌*◌, ◌/◌, ◌%◌, ◌≤◌, ◌<◌, ◌≡◌, length, get_or}
use mathlib.Core.List.{List, [], ◌∷◌, Memᴰ}
use Rattle.lists.specs.Lists.{Once}
use Rattle.lists.specs.Rows.{flat, over}
use Rattle.lists.specs.Groups.{Below}
use Rattle.complex.specs.declared.numbering.Face.{Face}
use Rattle.complex.specs.declared.numbering.Face.TheVariants.{Edge, Triangle, Tet}
use Rattle.complex.specs.declared.numbering.FaceCounts.{FaceCounts}
use Rattle.complex.specs.Complex.{width_of, count_of, faces, numbers_of}
use Rattle.complex.specs.Builder.{Lists, pentachorons}

-- whole pentachorons, and room for the links of the chains and the numbers of their faces
pub record Searched (f : Face) (P pents next numbers : ℕ) : Type 0 where
  pub five : pents ≡ 5 * P
  pub few : P ≤ 8192
  pub links : count_of f * P ≤ next
  pub numbered : count_of f * P ≤ numbers

-- the same, and room for the rows
pub record Faces (f : Face) (P pents list next numbers : ℕ) : Type 0 where
  pub searched : Searched f P pents next numbers
  pub room : width_of f * (count_of f * P) ≤ list

-- the faces of ps are numbered: r is their count, `list'` has their rows, `numbers'` the number of each as it is met; the other places are kept
pub record Numbered (f : Face) (ps : List (List ℕ)) (list list' numbers numbers' : List ℕ) (r : ℕ) : Type 0 where
  pub count : r ≡ length (faces f ps)
  pub rows : list' ≡ over (flat (faces f ps)) list
  pub noted : numbers' ≡ over (numbers_of f ps) numbers

-- room for the faces of all three kinds
pub record AllFaces (pents edges triangles tets next pe pt : ℕ) : Type 0 where
  pub for_tets : Faces Tet (pents / 5) pents tets next pt
  pub for_edges : Faces Edge (pents / 5) pents edges next pe
  pub for_triangles : Faces Triangle (pents / 5) pents triangles next pt

-- the faces of ps are numbered, each kind in its own list; pt has the numbers of the triangles over those of the tets
pub record AllNumbered (ps : List (List ℕ)) (edges edges' triangles triangles' tets tets' pe pe' pt pt' : List ℕ) (r : FaceCounts) : Type 0 where
  pub on_tets : Numbered Tet ps tets tets' pt (over (numbers_of Tet ps) pt) r.tets
  pub on_edges : Numbered Edge ps edges edges' pe pe' r.edges
  pub on_triangles : Numbered Triangle ps triangles triangles' (over (numbers_of Tet ps) pt) pt' r.triangles

-- ---- the edges of triangles

-- where each triangle's three edges stand among the ten edges of its pentachoron
abbrev pub edge_places : List (List ℕ)
edge_places =
    (0 ∷ 1 ∷ 4 ∷ [])
    ∷ (0 ∷ 2 ∷ 5 ∷ [])
    ∷ (0 ∷ 3 ∷ 6 ∷ [])
    ∷ (1 ∷ 2 ∷ 7 ∷ [])
    ∷ (1 ∷ 3 ∷ 8 ∷ [])
    ∷ (2 ∷ 3 ∷ 9 ∷ [])
    ∷ (4 ∷ 5 ∷ 7 ∷ [])
    ∷ (4 ∷ 6 ∷ 8 ∷ [])
    ∷ (5 ∷ 6 ∷ 9 ∷ [])
    ∷ (7 ∷ 8 ∷ 9 ∷ [])
    ∷ []

-- the number of edge i of the triangle that is met as the k-th, by the edge numbers of its pentachoron
unfoldable pub edge_at : List ℕ → ℕ → ℕ → ℕ
edge_at pe k i = get_or pe (10 * (k / 10) + get_or (get_or edge_places (k % 10) []) i 0) 0

-- the edge numbers pe and triangle numbers pt of whole pentachorons; a triangle has the same edges wherever it is met, and room for them
pub record Consistent (pe pt : List ℕ) (room : ℕ) : Type 0 where
  pub whole : length pt % 10 ≡ 0
  pub alike : length pe ≡ length pt
  pub places : (k : ℕ) → k < length pt → 3 * get_or pt k 0 + 3 ≤ room
  pub same : (j k i : ℕ) → j < length pt → k < length pt → i < 3 → get_or pt j 0 ≡ get_or pt k 0 → edge_at pe j i ≡ edge_at pe k i

-- the triangles that are met before the n-th have the numbers of their edges in te
pub record EdgesOf (pe pt te : List ℕ) (n : ℕ) : Type 0 where
  pub edge : (k i : ℕ) → k < n → i < 3 → get_or te (3 * get_or pt k 0 + i) 0 ≡ edge_at pe k i

-- ---- adjacency

-- the lengths of the lent adjacency lists: items and starts of each
pub record Lent : Type 0 where
  pub tri_to_pents : ℕ
  pub tri_to_pents_starts : ℕ
  pub edge_to_tris : ℕ
  pub edge_to_tris_starts : ℕ
  pub edge_to_pents : ℕ
  pub edge_to_pents_starts : ℕ

-- the edge numbers pe and triangle numbers pt of whole pentachorons, E edges and T triangles in all: each triangle is met, and the lists have room
pub record Adjacent (pe pt : List ℕ) (E T scratch : ℕ) (lent : Lent) : Type 0 where
  pub consistent : Consistent pe pt scratch
  pub edge_below : Below pe E
  pub tri_below : Below pt T
  pub tri_met : (t : ℕ) → t < T → (k : ℕ) × (k < length pt) × (get_or pt k 0 ≡ t)
  pub few : length pt ≤ 81920
  pub tris : 3 * T ≤ scratch
  pub most : T ≤ 81920
  pub room_tp : length pt ≤ lent.tri_to_pents
  pub room_tp_starts : T < lent.tri_to_pents_starts
  pub room_et : 3 * T ≤ lent.edge_to_tris
  pub room_et_starts : E < lent.edge_to_tris_starts
  pub room_ep : length pe ≤ lent.edge_to_pents
  pub room_ep_starts : E < lent.edge_to_pents_starts

-- ---- the whole

-- a pentachoron list that passed the checks, with lists that have room
pub record Buildable (given : List ℕ) (l : Lists) : Type 0 where
  pub whole : length given % 5 ≡ 0
  pub few : length given ≤ 40960
  pub once : (p : List ℕ) → Memᴰ p (pentachorons given) → Once p
  pub pents_room : length given ≤ length l.pents
  pub edges_room : 4 * length given ≤ length l.edges
  pub triangles_room : 6 * length given ≤ length l.triangles
  pub tets_room : 4 * length given ≤ length l.tets
  pub tp_room : 2 * length given ≤ length l.tri_to_pents
  pub tp_starts_room : 2 * length given < length l.tri_to_pents_starts
  pub et_room : 6 * length given ≤ length l.edge_to_tris
  pub et_starts_room : 2 * length given < length l.edge_to_tris_starts
  pub ep_room : 2 * length given ≤ length l.edge_to_pents
  pub ep_starts_room : 2 * length given < length l.edge_to_pents_starts
