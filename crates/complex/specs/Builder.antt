-- The builder `from_pentachorons`: when it refuses, what it answers, and what it leaves in the lent lists. Definitions only.
use Rattle.std.specs.Prelude.{ℕ, ◌+◌, ◌*◌, ◌/◌, ◌%◌, ◌≡◌, Bool, false, not, cond, ◌||◌, List, [], ◌∷◌, map, eqb, ltb, leb, length, Result, Ok, Err}
use Rattle.refusals.specs.declared.Refusal.TheVariants.{VertexCount, ListLength, ShortRoom, VertexTooLarge, RepeatedVertex}
use Rattle.refusals.specs.declared.Refusal.{Refusal}
use Rattle.refusals.specs.Refusals.{Outcome, Done, answer_by}
use Rattle.lists.specs.Lists.{among}
use Rattle.lists.specs.Rows.{flat, rows, starts, over}
use Rattle.lists.specs.Sorting.{sort}
use Rattle.complex.specs.declared.Counts.{Counts}
use Rattle.complex.specs.declared.checks.Rooms.{Rooms}
use Rattle.complex.specs.Complex.{edges, triangles, tets, tri_to_pents, edge_to_tris, edge_to_pents}

-- ---- the input

-- the pentachorons of a flat list
abbrev pub pentachorons : List ℕ → List (List ℕ)
pentachorons given = rows 5 (length given / 5) given

-- each of them sorted
unfoldable pub sorted_pents : List ℕ → List (List ℕ)
sorted_pents given = map sort (pentachorons given)

-- ---- refusals

-- some number is not below n
unfoldable pub too_large : ℕ → List ℕ → Bool
too_large n [] = false
too_large n (v ∷ p) = leb n v || too_large n p

-- some number stands twice
unfoldable pub repeats : List ℕ → Bool
repeats [] = false
repeats (v ∷ p) = among v p || repeats p

-- the refusal of the earliest offending pentachoron, the first of which has the number k
unfoldable pub offence : ℕ → ℕ → List (List ℕ) → Outcome
offence n k [] = Done
offence n k (p ∷ ps) = cond (too_large n p) (Err (VertexTooLarge k)) (cond (repeats p) (Err (RepeatedVertex k)) (offence n (k + 1) ps))

-- some lent list is shorter than its room for P pentachorons
unfoldable pub is_short : ℕ → Rooms → Bool
is_short P r =
    ltb r.pents (5 * P) || ltb r.edges (20 * P) || ltb r.triangles (30 * P) || ltb r.tets (20 * P)
    || ltb r.tri_to_pents_items (10 * P) || ltb r.tri_to_pents_starts (10 * P + 1)
    || ltb r.edge_to_tris_items (30 * P) || ltb r.edge_to_tris_starts (10 * P + 1)
    || ltb r.edge_to_pents_items (10 * P) || ltb r.edge_to_pents_starts (10 * P + 1)

-- the checks, in this order: vertex count n, pentachoron list, lengths of the lent lists
unfoldable pub check_of : ℕ → List ℕ → Rooms → Outcome
check_of n given r =
    cond (eqb n 0 || ltb 4096 n) (Err VertexCount)
    (cond (not (eqb (length given % 5) 0) || ltb 40960 (length given)) (Err ListLength)
    (cond (is_short (length given / 5) r) (Err ShortRoom) (offence n 0 (pentachorons given))))

-- ---- the answer

-- the counts of the complex of sorted pentachorons
unfoldable pub counts_of : ℕ → List (List ℕ) → Counts
counts_of n ps = record { vertices = n; pentachorons = length ps; edges = length (edges ps); triangles = length (triangles ps); tets = length (tets ps) }

-- the builder's answer: counts, or a refusal
abbrev pub Built : Type 0
Built = Result Counts Refusal

-- the answer, by that of the checks
abbrev pub built_of : Outcome → ℕ → List ℕ → Built
built_of o n given = answer_by o (counts_of n (sorted_pents given))

-- ---- the lent lists

-- the ten lists of a complex, as they are lent
pub record Lists : Type 0 where
  pub pents : List ℕ
  pub edges : List ℕ
  pub triangles : List ℕ
  pub tets : List ℕ
  pub tri_to_pents : List ℕ
  pub tri_to_pents_starts : List ℕ
  pub edge_to_tris : List ℕ
  pub edge_to_tris_starts : List ℕ
  pub edge_to_pents : List ℕ
  pub edge_to_pents_starts : List ℕ

-- ten lists, in the order in which they are lent
abbrev pub lists : List ℕ → List ℕ → List ℕ → List ℕ → List ℕ → List ℕ → List ℕ → List ℕ → List ℕ → List ℕ → Lists
lists p e t k tp tps et ets ep eps =
    record {
      pents = p;
      edges = e;
      triangles = t;
      tets = k;
      tri_to_pents = tp;
      tri_to_pents_starts = tps;
      edge_to_tris = et;
      edge_to_tris_starts = ets;
      edge_to_pents = ep;
      edge_to_pents_starts = eps;
    }

-- what the builder writes for sorted pentachorons: rows are flat, adjacency lists are items and starts
unfoldable pub written : List (List ℕ) → Lists
written ps =
    record {
      pents = flat ps;
      edges = flat (edges ps);
      triangles = flat (triangles ps);
      tets = flat (tets ps);
      tri_to_pents = flat (tri_to_pents ps);
      tri_to_pents_starts = starts (tri_to_pents ps);
      edge_to_tris = flat (edge_to_tris ps);
      edge_to_tris_starts = starts (edge_to_tris ps);
      edge_to_pents = flat (edge_to_pents ps);
      edge_to_pents_starts = starts (edge_to_pents ps);
    }

-- each list with new content written over its beginning
unfoldable pub over_all : Lists → Lists → Lists
over_all new old =
    record {
      pents = over new.pents old.pents;
      edges = over new.edges old.edges;
      triangles = over new.triangles old.triangles;
      tets = over new.tets old.tets;
      tri_to_pents = over new.tri_to_pents old.tri_to_pents;
      tri_to_pents_starts = over new.tri_to_pents_starts old.tri_to_pents_starts;
      edge_to_tris = over new.edge_to_tris old.edge_to_tris;
      edge_to_tris_starts = over new.edge_to_tris_starts old.edge_to_tris_starts;
      edge_to_pents = over new.edge_to_pents old.edge_to_pents;
      edge_to_pents_starts = over new.edge_to_pents_starts old.edge_to_pents_starts;
    }

-- the lists after the call, by the answer of the checks: unchanged where it refuses
abbrev pub lists_after : Outcome → List ℕ → Lists → Lists
lists_after (Ok u) given old = over_all (written (sorted_pents given)) old
lists_after (Err r) given old = old

-- the lengths of the lists
unfoldable pub rooms_of : Lists → Rooms
rooms_of l =
    record {
      pents = length l.pents;
      edges = length l.edges;
      triangles = length l.triangles;
      tets = length l.tets;
      tri_to_pents_items = length l.tri_to_pents;
      tri_to_pents_starts = length l.tri_to_pents_starts;
      edge_to_tris_items = length l.edge_to_tris;
      edge_to_tris_starts = length l.edge_to_tris_starts;
      edge_to_pents_items = length l.edge_to_pents;
      edge_to_pents_starts = length l.edge_to_pents_starts;
    }

-- the builder at vertex count n and a pentachoron list: the answer r, and the lists after it
pub record Builds (n : ℕ) (given : List ℕ) (before : Lists) (r : Built) (after : Lists) : Type 0 where
  pub answered : r ≡ built_of (check_of n given (rooms_of before)) n given
  pub left : after ≡ lists_after (check_of n given (rooms_of before)) given before
