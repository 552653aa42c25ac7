-- What the steps over a complex ask. Definitions only.
use Rattle.std.specs.Prelude.{ℕ, ◌≤◌, ◌≡◌, true}
use mathlib.Core.List.{List, Memᴰ}
use Rattle.lists.specs.Lists.{combos}
use Rattle.complex.specs.declared.Counts.{Counts}
use Rattle.complex.specs.declared.Complex.{Complex}
use Rattle.complex.specs.declared.Incidence.{Incidence}
use Rattle.complex.specs.Check.{pents_in, edges_in, triangles_in, holds}
use Rattle.incidence.specs.Incidence.{Tens, Simplices, Lie}

-- each face of k vertices of each row is among the keys
abbrev pub Found : List (List ℕ) → ℕ → List (List ℕ) → Type 0
Found keys k rs = (r s : List ℕ) → Memᴰ r rs → Memᴰ s (combos r k) → Memᴰ s keys

-- pentachorons with the numbers of their edges and triangles, and a length for each edge
pub record Passable (c : Counts) (pents edges triangles pe pt : List ℕ) (n : ℕ) : Type 0 where
  pub few : c.pentachorons ≤ 8192
  pub edge_numbers : Tens (edges_in c edges) 2 c.pentachorons pents pe
  pub tri_numbers : Tens (triangles_in c triangles) 3 c.pentachorons pents pt
  pub edges_found : Found (edges_in c edges) 2 (pents_in c pents)
  pub triangles_found : Found (triangles_in c triangles) 3 (pents_in c pents)
  pub lengths : n ≡ c.edges

-- the same, and triangles whose edges have numbers, with the numbers of the pentachorons in which each triangle lies
pub record Measured (c : Counts) (pents edges triangles items ss pe pt : List ℕ) (n : ℕ) : Type 0 where
  pub passable : Passable c pents edges triangles pe pt n
  pub few : c.triangles ≤ 81920
  pub simplices : Simplices (pents_in c pents) (triangles_in c triangles)
  pub lie : Lie (pents_in c pents) (triangles_in c triangles)
  pub holders : holds (pents_in c pents) (triangles_in c triangles) items ss ≡ true
  pub edges_found : Found (edges_in c edges) 2 (triangles_in c triangles)

-- ---- of a lent complex

-- the same of a lent complex and the numbers of its pentachorons' edges and triangles
abbrev pub IsPassable : Complex → Incidence → ℕ → Type 0
IsPassable x i n = Passable x.counts x.pents.now x.edges.now x.triangles.now i.pent_edges.now i.pent_tris.now n

abbrev pub IsMeasured : Complex → Incidence → ℕ → Type 0
IsMeasured x i n =
    Measured x.counts x.pents.now x.edges.now x.triangles.now x.tri_to_pents.items.now x.tri_to_pents.starts.now i.pent_edges.now i.pent_tris.now n
