-- The check behind refusal 7: when counts and lists are those of a built complex, and what the check answers and leaves. Definitions only.
use Rattle.refusals.specs.Refusals.{Done, Outcome}
use Rattle.std.specs.Prelude.{ℕ, ◌+◌, ◌*◌, ◌≡◌, Bool, false, not, cond, ◌&&◌, ◌||◌, List, map, eqb, ltb, leb, length, take, Err, Ok}
use Rattle.refusals.specs.declared.Refusal.TheVariants.{NotBuilt, ShortRoom}
use Rattle.lists.specs.Rows.{flat, rows, starts, over, begins}
use Rattle.complex.specs.declared.Counts.{Counts}
use Rattle.complex.specs.declared.numbering.Face.TheVariants.{Edge, Triangle}
use Rattle.complex.specs.declared.checks.Rooms.{Rooms}
use Rattle.complex.specs.Complex.{holding, numbers_of}
use Rattle.complex.specs.Builder.{sorted_pents, check_of, Built, built_of, Lists, written}

-- ---- the rows of the lent lists

-- the pentachorons
abbrev pub pents_in : Counts → List ℕ → List (List ℕ)
pents_in c pents = rows 5 c.pentachorons pents

-- the edges
abbrev pub edges_in : Counts → List ℕ → List (List ℕ)
edges_in c edges = rows 2 c.edges edges

-- the triangles
abbrev pub triangles_in : Counts → List ℕ → List (List ℕ)
triangles_in c triangles = rows 3 c.triangles triangles

-- ---- adjacency lists

-- items and starts begin with the numbers of the rows in which each key lies
unfoldable pub holds : List (List ℕ) → List (List ℕ) → List ℕ → List ℕ → Bool
holds rs keys items ss = begins (flat (map (holding rs) keys)) items && begins (starts (map (holding rs) keys)) ss

-- ---- a built complex

-- the pentachoron list of a complex: the first 5P numbers of its sorted list
abbrev pub given_of : Counts → Lists → List ℕ
given_of c l = take (5 * c.pentachorons) l.pents

-- just the room that the builder asks for P pentachorons
abbrev pub room_for : ℕ → Rooms
room_for P =
    record {
      pents = 5 * P;
      edges = 20 * P;
      triangles = 30 * P;
      tets = 20 * P;
      tri_to_pents_items = 10 * P;
      tri_to_pents_starts = 10 * P + 1;
      edge_to_tris_items = 30 * P;
      edge_to_tris_starts = 10 * P + 1;
      edge_to_pents_items = 10 * P;
      edge_to_pents_starts = 10 * P + 1;
    }

-- the builder's answer for that list, given room
abbrev pub answer_for : Counts → Lists → Built
answer_for c l = built_of (check_of c.vertices (given_of c l) (room_for c.pentachorons)) c.vertices (given_of c l)

-- two counts are the same
unfoldable pub same_counts : Counts → Counts → Bool
same_counts c d =
    eqb c.vertices d.vertices && eqb c.pentachorons d.pentachorons && eqb c.edges d.edges && eqb c.triangles d.triangles && eqb c.tets d.tets

-- an answer of the builder is these counts
abbrev pub answers : Built → Counts → Bool
answers (Ok d) c = same_counts c d
answers (Err r) c = false

-- each list begins with what is written; what follows is not looked at
unfoldable pub begin_all : Lists → Lists → Bool
begin_all new l =
    begins new.pents l.pents && begins new.edges l.edges && begins new.triangles l.triangles && begins new.tets l.tets
    && begins new.tri_to_pents l.tri_to_pents && begins new.tri_to_pents_starts l.tri_to_pents_starts
    && begins new.edge_to_tris l.edge_to_tris && begins new.edge_to_tris_starts l.edge_to_tris_starts
    && begins new.edge_to_pents l.edge_to_pents && begins new.edge_to_pents_starts l.edge_to_pents_starts

-- Built: counts and lists are what the builder answers and writes for the vertex count and the pentachoron list
unfoldable pub is_built : Counts → Lists → Bool
is_built c l = leb (5 * c.pentachorons) (length l.pents) && answers (answer_for c l) c && begin_all (written (sorted_pents (given_of c l))) l

-- ---- the answer

-- 7 where the complex is not built, then 5 where there is not room for ten numbers a pentachoron
unfoldable pub checked_of : Counts → Lists → ℕ → ℕ → Outcome
checked_of c l edges tris =
    cond (not (is_built c l)) (Err NotBuilt)
    (cond (ltb edges (10 * c.pentachorons) || ltb tris (10 * c.pentachorons)) (Err ShortRoom) Done)

-- a lent list after a call, by its outcome: unchanged where the call is refused
abbrev pub written_after : {A : Type 0} → Outcome → List A → List A → List A
written_after (Ok u) new old = over new old
written_after (Err r) new old = old

-- the check of a complex: the answer r, and the edge numbers and triangle numbers of its pentachorons
pub record Checked (c : Counts) (l : Lists) (pe pt : List ℕ) (r : Outcome) (pe' pt' : List ℕ) : Type 0 where
  pub answered : r ≡ checked_of c l (length pe) (length pt)
  pub edges : pe' ≡ written_after r (numbers_of Edge (pents_in c l.pents)) pe
  pub triangles : pt' ≡ written_after r (numbers_of Triangle (pents_in c l.pents)) pt
