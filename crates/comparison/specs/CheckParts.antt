-- What the parts of the check behind refusal 7 answer. `is_built` is all of them together (`built-parts`). Definitions only.
use Rattle.std.specs.Prelude.{ℕ, ◌+◌, ◌*◌, ◌-◌, Bool, true, not, ◌&&◌, List, [], ◌∷◌, eqb, ltb, leb, length, get_or, take, drop}
use Rattle.lists.specs.Lists.{within}
use Rattle.lists.specs.Rows.{flat, begins}
use Rattle.complex.specs.declared.Counts.{Counts}
use Rattle.complex.specs.declared.numbering.Face.{Face}
use Rattle.complex.specs.declared.numbering.Face.TheVariants.{Edge, Triangle, Tet}
use Rattle.complex.specs.Complex.{faces, edges, triangles}
use Rattle.complex.specs.Builder.{Lists}
use Rattle.complex.specs.Check.{pents_in, holds}

-- ---- pentachorons

-- each vertex is below the next, and the last below n
unfoldable pub rises : ℕ → List ℕ → Bool
rises n [] = true
rises n (v ∷ []) = ltb v n
rises n (v ∷ w ∷ p) = ltb v w && rises n (w ∷ p)

-- so it is in every pentachoron
unfoldable pub all_rise : ℕ → List (List ℕ) → Bool
all_rise n [] = true
all_rise n (p ∷ ps) = rises n p && all_rise n ps

-- there is a sorted pentachoron list that the builder takes
unfoldable pub has_pents : Counts → Lists → Bool
has_pents c l =
    not (eqb c.vertices 0) && leb c.vertices 4096 && leb c.pentachorons 8192 && leb (5 * c.pentachorons) (length l.pents)
    && all_rise c.vertices (pents_in c l.pents)

-- ---- faces

-- a list begins with the faces of a kind, and n is their count
unfoldable pub has_faces : Face → List (List ℕ) → ℕ → List ℕ → Bool
has_faces f ps n list = eqb n (length (faces f ps)) && begins (flat (faces f ps)) list

-- the three lists of faces do
unfoldable pub has_all_faces : Counts → Lists → Bool
has_all_faces c l =
    let ps = pents_in c l.pents in
    has_faces Tet ps c.tets l.tets && has_faces Edge ps c.edges l.edges && has_faces Triangle ps c.triangles l.triangles

-- ---- adjacency

-- the items are numbers of rows in which s lies, rising and none below lo
unfoldable pub lying : List (List ℕ) → List ℕ → ℕ → List ℕ → Bool
lying rs s lo [] = true
lying rs s lo (i ∷ is) = leb lo i && ltb i (length rs) && within s (get_or rs i []) && lying rs s (i + 1) is

-- starts j and j + 1 do not fall and lie within the items, and the items between them are such numbers
unfoldable pub part_lies : List (List ℕ) → List ℕ → List ℕ → List ℕ → ℕ → Bool
part_lies rs s items ss j =
    leb (get_or ss j 0) (get_or ss (j + 1) 0) && leb (get_or ss (j + 1) 0) (length items)
    && lying rs s 0 (take (get_or ss (j + 1) 0 - get_or ss j 0) (drop (get_or ss j 0) items))

-- the three adjacency lists are those of the pentachorons and their faces
unfoldable pub has_adjacency : Counts → Lists → Bool
has_adjacency c l =
    let ps = pents_in c l.pents in
    holds ps (triangles ps) l.tri_to_pents l.tri_to_pents_starts && holds (triangles ps) (edges ps) l.edge_to_tris l.edge_to_tris_starts
    && holds ps (edges ps) l.edge_to_pents l.edge_to_pents_starts
