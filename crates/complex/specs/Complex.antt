-- The complex of a list of pentachorons: its faces, numbered by first meeting, and its adjacency lists. Definitions only.
-- A pentachoron and its faces are rising lists of vertices; `ps` is a list of sorted pentachorons.
use Rattle.std.specs.Prelude.{ℕ, List, [], reverse, map, length, get_or}
use Rattle.lists.specs.Lists.{keep, gather, upto, combos, within}
use Rattle.lists.specs.Keys.{find, firsts}
use Rattle.complex.specs.declared.numbering.Face.{Face}
use Rattle.complex.specs.declared.numbering.Face.TheVariants.{Edge, Triangle, Tet}

-- ---- faces

-- how many vertices a face has
abbrev pub width_of : Face → ℕ
width_of Edge = 2
width_of Triangle = 3
width_of Tet = 4

-- how many such faces a pentachoron has
abbrev pub count_of : Face → ℕ
count_of Edge = 10
count_of Triangle = 10
count_of Tet = 5

-- the faces of a pentachoron, in the Rust's loop order: the loop over tets goes by the vertex that is left out, from the first to the last
abbrev pub faces_of : Face → List ℕ → List (List ℕ)
faces_of Edge p = combos p 2
faces_of Triangle p = combos p 3
faces_of Tet p = reverse (combos p 4)

-- the faces of all pentachorons, one after the other as they are met
unfoldable pub met_faces : Face → List (List ℕ) → List (List ℕ)
met_faces f ps = gather (faces_of f) ps

-- the faces of all pentachorons, numbered by first meeting
unfoldable pub faces : Face → List (List ℕ) → List (List ℕ)
faces f ps = firsts (met_faces f ps)

-- the edges
abbrev pub edges : List (List ℕ) → List (List ℕ)
edges ps = faces Edge ps

-- the triangles
abbrev pub triangles : List (List ℕ) → List (List ℕ)
triangles ps = faces Triangle ps

-- the tets
abbrev pub tets : List (List ℕ) → List (List ℕ)
tets ps = faces Tet ps

-- ---- adjacency

-- the numbers of the rows in which s lies, ascending. Lies in: all vertices of s are among the row's
unfoldable pub holding : List (List ℕ) → List ℕ → List ℕ
holding rs s = keep (λ i. within s (get_or rs i [])) (upto (length rs))

-- for each triangle the pentachorons in which it lies
unfoldable pub tri_to_pents : List (List ℕ) → List (List ℕ)
tri_to_pents ps = map (holding ps) (triangles ps)

-- for each edge the triangles in which it lies
unfoldable pub edge_to_tris : List (List ℕ) → List (List ℕ)
edge_to_tris ps = map (holding (triangles ps)) (edges ps)

-- for each edge the pentachorons in which it lies
unfoldable pub edge_to_pents : List (List ℕ) → List (List ℕ)
edge_to_pents ps = map (holding ps) (edges ps)

-- ---- numbers

-- the numbers of the faces of k vertices of a simplex, among `keys`
abbrev pub row_numbers : List (List ℕ) → ℕ → List ℕ → List ℕ
row_numbers keys k r = map (λ s. find s keys) (combos r k)

-- the number of each face, as it is met: for each pentachoron those of its faces
unfoldable pub numbers_of : Face → List (List ℕ) → List ℕ
numbers_of f ps = map (λ s. find s (faces f ps)) (met_faces f ps)
