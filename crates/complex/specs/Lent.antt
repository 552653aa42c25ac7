-- A lent complex seen as lists: what contracts say of the structs that hold its references. Definitions only.
use Rattle.std.specs.Prelude.{ℕ, ◌*◌, List, ◌≡◌, true, take}
use Rattle.lists.specs.Rows.{flat, starts, over}
use Rattle.lists.specs.Groups.{groups}
use Rattle.complex.specs.declared.AdjacencyList.{AdjacencyList}
use Rattle.complex.specs.declared.Complex.{Complex}
use Rattle.complex.specs.declared.ListsMut.{ListsMut}
use Rattle.complex.specs.Builder.{Lists, lists}
use Rattle.complex.specs.Check.{pents_in, edges_in, triangles_in, holds}

-- ---- lists that are read

-- the ten lists
abbrev pub lists_of : Complex → Lists
lists_of x =
    lists x.pents.now x.edges.now x.triangles.now x.tets.now x.tri_to_pents.items.now x.tri_to_pents.starts.now
    x.edge_to_tris.items.now x.edge_to_tris.starts.now x.edge_to_pents.items.now x.edge_to_pents.starts.now

-- the pentachorons
abbrev pub pents_of : Complex → List (List ℕ)
pents_of x = pents_in x.counts x.pents.now

-- the edges
abbrev pub edges_of : Complex → List (List ℕ)
edges_of x = edges_in x.counts x.edges.now

-- the triangles
abbrev pub triangles_of : Complex → List (List ℕ)
triangles_of x = triangles_in x.counts x.triangles.now

-- an adjacency list begins with the numbers of the rows in which each key lies
abbrev pub IsHolding : List (List ℕ) → List (List ℕ) → AdjacencyList → Type 0
IsHolding rs keys a = holds rs keys a.items.now a.starts.now ≡ true

-- ---- lists that are written

-- the ten lists, as they are now
abbrev pub lists_in : ListsMut → Lists
lists_in l =
    lists l.pents.now l.edges.now l.triangles.now l.tets.now l.tri_to_pents_items.now l.tri_to_pents_starts.now
    l.edge_to_tris_items.now l.edge_to_tris_starts.now l.edge_to_pents_items.now l.edge_to_pents_starts.now

-- each list is written to where it was lent
pub record SameLists (a b : ListsMut) : Type 0 where
  pub pents : b.pents.ghost_name ≡ a.pents.ghost_name
  pub edges : b.edges.ghost_name ≡ a.edges.ghost_name
  pub triangles : b.triangles.ghost_name ≡ a.triangles.ghost_name
  pub tets : b.tets.ghost_name ≡ a.tets.ghost_name
  pub tri_to_pents_items : b.tri_to_pents_items.ghost_name ≡ a.tri_to_pents_items.ghost_name
  pub tri_to_pents_starts : b.tri_to_pents_starts.ghost_name ≡ a.tri_to_pents_starts.ghost_name
  pub edge_to_tris_items : b.edge_to_tris_items.ghost_name ≡ a.edge_to_tris_items.ghost_name
  pub edge_to_tris_starts : b.edge_to_tris_starts.ghost_name ≡ a.edge_to_tris_starts.ghost_name
  pub edge_to_pents_items : b.edge_to_pents_items.ghost_name ≡ a.edge_to_pents_items.ghost_name
  pub edge_to_pents_starts : b.edge_to_pents_starts.ghost_name ≡ a.edge_to_pents_starts.ghost_name

-- an adjacency list has, over its beginnings, the numbers of the rows of w numbers of a flat list in which each number below m stands
pub record IsGrouped (w m : ℕ) (ns items items' ss ss' : List ℕ) : Type 0 where
  pub items_after : items' ≡ over (flat (groups w m ns)) items
  pub starts_after : ss' ≡ over (starts (groups w m ns)) ss

-- the three adjacency lists are grouped so: by the edge numbers pe and triangle numbers pt of pentachorons, and by te, which has the edges of
-- T triangles, E edges in all; the lists of faces are kept
pub record Grouped (pe pt te : List ℕ) (E T : ℕ) (a b : ListsMut) : Type 0 where
  pub pents : b.pents.now ≡ a.pents.now
  pub edges : b.edges.now ≡ a.edges.now
  pub triangles : b.triangles.now ≡ a.triangles.now
  pub tets : b.tets.now ≡ a.tets.now
  pub tri_to_pents : IsGrouped 10 T pt a.tri_to_pents_items.now b.tri_to_pents_items.now a.tri_to_pents_starts.now b.tri_to_pents_starts.now
  pub edge_to_tris : IsGrouped 3 E (take (3 * T) te) a.edge_to_tris_items.now b.edge_to_tris_items.now a.edge_to_tris_starts.now b.edge_to_tris_starts.now
  pub edge_to_pents : IsGrouped 10 E pe a.edge_to_pents_items.now b.edge_to_pents_items.now a.edge_to_pents_starts.now b.edge_to_pents_starts.now
