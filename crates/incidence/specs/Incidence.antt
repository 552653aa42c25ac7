-- What the incidence functions ask and answer: the rows of the lent lists, and the numbers of faces that lie in each other. Definitions only.
use Rattle.std.specs.Prelude.{ℕ, ◌*◌, ◌≤◌, ◌≡◌, true, not, length, get_or}
use mathlib.Core.List.{List, [], ◌∷◌, Memᴰ}
use Rattle.lists.specs.Lists.{keep, gather, upto, among, Within, Rising}
use Rattle.lists.specs.Keys.{Distinct}
use Rattle.lists.specs.Rows.{rows, begins}
use Rattle.incidence.specs.declared.TriangleEdges.{TriangleEdges}
use Rattle.incidence.specs.declared.Opposite.{Opposite}
use Rattle.complex.specs.declared.Complex.{Complex}
use Rattle.complex.specs.declared.Incidence.{Incidence}
use Rattle.complex.specs.Complex.{row_numbers}
use Rattle.complex.specs.Lent.{edges_of, triangles_of}

-- ---- what is asked

-- there are P pentachorons, and `numbers` begins with the numbers, among `keys`, of the ten faces of k vertices of each
pub record Tens (keys : List (List ℕ)) (k P : ℕ) (pents numbers : List ℕ) : Type 0 where
  pub room : 5 * P ≤ length pents
  pub noted : begins (gather (row_numbers keys k) (rows 5 P pents)) numbers ≡ true

-- the numbers of a complex's pentachorons' edges are noted
abbrev pub HasEdgeNumbers : Complex → Incidence → Type 0
HasEdgeNumbers x i = Tens (edges_of x) 2 x.counts.pentachorons x.pents.now i.pent_edges.now

-- the numbers of their triangles are
abbrev pub HasTriangleNumbers : Complex → Incidence → Type 0
HasTriangleNumbers x i = Tens (triangles_of x) 3 x.counts.pentachorons x.pents.now i.pent_tris.now

-- pentachorons and triangles are rising lists, a triangle of three vertices, and no triangle stands twice
pub record Simplices (ps ts : List (List ℕ)) : Type 0 where
  pub pentachoron : (p : List ℕ) → Memᴰ p ps → Rising p
  pub triangle : (t : List ℕ) → Memᴰ t ts → Rising t × (length t ≡ 3)
  pub distinct : Distinct ts

-- each triangle lies in some pentachoron
abbrev pub Lie : List (List ℕ) → List (List ℕ) → Type 0
Lie ps ts = (t : List ℕ) → Memᴰ t ts → (p : List ℕ) × Memᴰ p ps × Within t p

-- ---- what is answered

-- the edge numbers of a triangle, as a list
abbrev pub edge_list : TriangleEdges → List ℕ
edge_list r = r.0.0 ∷ r.1.0 ∷ r.2.0 ∷ []

-- two local indices, as a list
abbrev pub index_list : Opposite → List ℕ
index_list r = r.l ∷ r.m ∷ []

-- the local indices, ascending, of the vertices of p that are not in t
unfoldable pub opposite_indices : List ℕ → List ℕ → List ℕ
opposite_indices p t = keep (λ v. not (among (get_or p v 0) t)) (upto (length p))
