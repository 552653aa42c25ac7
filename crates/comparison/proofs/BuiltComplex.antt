-- A built complex: what the definition says of each list, and that a complex of which all this holds is built. Assumes nothing.
use Rattle.refusals.specs.Refusals.{Done, Outcome}
use Rattle.std.specs.Prelude.{Err, Ok}
use Prim.Native.Nat.{ℕ, ◌+◌, ◌*◌, ◌/◌, ◌%◌, ◌≤◌, ◌<◌}
use mathlib.Core.Path.{◌≡◌, refl, sym, ap, ◌∙◌, subst}
use mathlib.Core.Bool.{true, false}
use mathlib.Core.List.{List, [], ◌++◌, map, append-nil}
use native.Mathlib.Omega.{arith}
use lib.Dec.{eqb, ltb, leb}
use lib.ListN.{length, take}
use lib.Seq.{length-take-le}
use borrow.Author.Tests.{leb-true, le-leb, eqb-true, eqb-false, eq-eqb, ne_eqb, ltb-false, le-ltb}
use Rattle.lists.specs.Rows.{flat, rows, Wide, begins}
use Rattle.lists.specs.Sorting.{sort}
use Rattle.lists.proofs.Tests.{Says, says-by, said, passes, and-true}
use Rattle.lists.proofs.Rows.{length-rows, rows_take, rows-wide, rows-front, length-flat, rows-flat, begins-says}
use Rattle.lists.proofs.Sorting.{sort-rising, sort-mem, rising_ascending, rising-once}
use Rattle.complex.specs.declared.Counts.{Counts}
use Rattle.complex.specs.declared.checks.Rooms.{Rooms}
use Rattle.complex.specs.declared.numbering.Face.TheVariants.{Edge, Triangle, Tet}
use Rattle.incidence.specs.Incidence.{Tens, Simplices, Lie}
use Rattle.complex.specs.Complex.{numbers_of, edges, triangles, tri_to_pents, edge_to_tris, edge_to_pents}
use Rattle.complex.specs.Builder.{pentachorons, sorted_pents, offence, is_short, check_of, built_of, counts_of, Lists, written}
use Rattle.complex.specs.Check.{pents_in, edges_in, triangles_in, given_of, room_for, answer_for, same_counts, answers, begin_all, is_built, holds}
use Rattle.complex.proofs.SortedPents.{sorted-wide-all, length-sorted-all, sorted-is, sorted_of}
use Rattle.complex.proofs.Offences.{or-false, offence-done, once-of, check_done, done_check, length-passed}
use Rattle.complex.proofs.Laws.{all-sorted, not-large, all-below, no-repeat, no-offence}
use Rattle.comparison.proofs.FaceLists.{HasFaces, has-rows}
use Rattle.complex.proofs.Lying.{Sorted}
use Rattle.incidence.proofs.Incident.{edge_numbers, triangle-numbers, simplices-of, lie-of}
use Rattle.comparison.proofs.Rises.{RisesBelow, AllRise}

-- what holds of the counts and lists of a built complex
pub record IsBuilt (c : Counts) (l : Lists) : Type 0 where
  pub some_vertices : 0 < c.vertices
  pub few_vertices : c.vertices ≤ 4096
  pub few : c.pentachorons ≤ 8192
  pub long : 5 * c.pentachorons ≤ length l.pents
  pub rise : AllRise c.vertices (pents_in c l.pents)
  pub has_edges : HasFaces Edge (pents_in c l.pents) c.edges l.edges
  pub has_triangles : HasFaces Triangle (pents_in c l.pents) c.triangles l.triangles
  pub has_tets : HasFaces Tet (pents_in c l.pents) c.tets l.tets
  pub tri_to_pents : holds (pents_in c l.pents) (triangles (pents_in c l.pents)) l.tri_to_pents l.tri_to_pents_starts ≡ true
  pub edge_to_tris : holds (triangles (pents_in c l.pents)) (edges (pents_in c l.pents)) l.edge_to_tris l.edge_to_tris_starts ≡ true
  pub edge_to_pents : holds (pents_in c l.pents) (edges (pents_in c l.pents)) l.edge_to_pents l.edge_to_pents_starts ≡ true

pub positive : {n : ℕ} → (n ≡ 0 → ⊥) → 0 < n
positive f = omega arith

-- the pentachorons of a list that the builder takes rise when they are sorted
pub taken-rises : (n : ℕ) (given : List ℕ) → offence n 0 (pentachorons given) ≡ Done → AllRise n (sorted_pents given)
taken-rises n given d p m =
    let w = sorted_of given p m in
    let ok = offence-done n 0 (pentachorons given) d w.0 w.1 in
    subst (RisesBelow n) w.2 (sort-rising w.0 (once-of w.0 ok.1), λ v k. not-large n w.0 ok.0 (sort-mem w.0 k))

-- ---- counts

same-is : (c d : Counts) → same_counts c d ≡ true
    → (c.vertices ≡ d.vertices) × (c.pentachorons ≡ d.pentachorons) × (c.edges ≡ d.edges) × (c.triangles ≡ d.triangles) × (c.tets ≡ d.tets)
unfolding same_counts
same-is c d h =
    let e = and-true _ (eqb c.tets d.tets) h in
    let t = and-true _ (eqb c.triangles d.triangles) e.0 in
    let g = and-true _ (eqb c.edges d.edges) t.0 in
    let p = and-true (eqb c.vertices d.vertices) (eqb c.pentachorons d.pentachorons) g.0 in
    (eqb-true _ _ p.0, eqb-true _ _ p.1, eqb-true _ _ g.1, eqb-true _ _ t.1, eqb-true _ _ e.1)

is_same : (c d : Counts) → c.vertices ≡ d.vertices → c.pentachorons ≡ d.pentachorons → c.edges ≡ d.edges → c.triangles ≡ d.triangles → c.tets ≡ d.tets → same_counts c d ≡ true
unfolding same_counts
is_same c d v p e t k = rw (eq-eqb _ _ v, eq-eqb _ _ p, eq-eqb _ _ e, eq-eqb _ _ t, eq-eqb _ _ k) refl

-- an answer of these counts is no refusal
answers-done : (o : Outcome) (n : ℕ) (given : List ℕ) (c : Counts) → answers (built_of o n given) c ≡ true → (o ≡ Done) × (same_counts c (counts_of n (sorted_pents given)) ≡ true)
answers-done (Ok u) n given c h = (refl, h)
answers-done (Err r) n given c h = absurd (let z : ◌≡◌ {A = ℕ} 0 1 = cc in omega arith)

done-answers : (o : Outcome) (n : ℕ) (given : List ℕ) (c : Counts) → o ≡ Done → same_counts c (counts_of n (sorted_pents given)) ≡ true → answers (built_of o n given) c ≡ true
done-answers o n given c e h = rw e h

-- ---- the pentachoron list

room-enough : (P : ℕ) → is_short P (room_for P) ≡ false
unfolding is_short
room-enough P =
    rw (le-ltb (5 * P) (5 * P) (omega arith), le-ltb (20 * P) (20 * P) (omega arith), le-ltb (30 * P) (30 * P) (omega arith), le-ltb (10 * P) (10 * P) (omega arith), le-ltb (10 * P + 1) (10 * P + 1) (omega arith)) refl

module _ (c : Counts) (l : Lists) (long : 5 * c.pentachorons ≤ length l.pents) where
  pub given-long : length (given_of c l) ≡ 5 * c.pentachorons
  given-long = length-take-le (5 * c.pentachorons) l.pents long

  pub given-rows : pentachorons (given_of c l) ≡ pents_in c l.pents
  given-rows =
      let n : length (given_of c l) / 5 ≡ c.pentachorons = omega (arith, given-long) in
      rw n (rows_take 5 c.pentachorons (5 * c.pentachorons) l.pents (omega arith) long)

  -- the sorted pentachorons are the rows where these begin the list
  given-sorted : take (length (flat (sorted_pents (given_of c l)))) l.pents ≡ flat (sorted_pents (given_of c l)) → sorted_pents (given_of c l) ≡ pents_in c l.pents
  given-sorted front =
      let n : length (sorted_pents (given_of c l)) ≡ c.pentachorons = length-sorted-all (given_of c l) ∙ omega (arith, given-long) in
      let m : length (flat (sorted_pents (given_of c l))) ≡ 5 * c.pentachorons = length-flat 5 (sorted_pents (given_of c l)) (sorted-wide-all (given_of c l)) ∙ ap (λ (k : ℕ). 5 * k) n in
      sym (rows-flat 5 (sorted_pents (given_of c l)) [] (sorted-wide-all (given_of c l)))
      ∙ ap (λ (k : ℕ). rows 5 k (flat (sorted_pents (given_of c l)) ++ [])) n
      ∙ ap (rows 5 c.pentachorons) (append-nil (flat (sorted_pents (given_of c l))) ∙ sym front ∙ ap (λ (k : ℕ). take k l.pents) m)
      ∙ rows_take 5 c.pentachorons (5 * c.pentachorons) l.pents (omega arith) long

  -- rows that rise are sorted
  pub rise-sorted : AllRise c.vertices (pents_in c l.pents) → sorted_pents (given_of c l) ≡ pents_in c l.pents
  rise-sorted up = sorted-is (given_of c l) ∙ ap (map sort) given-rows ∙ all-sorted (pents_in c l.pents) (λ p m. rising_ascending p (up p m).0)

-- ---- the lists

-- each list begins with what is written
pub record BeginAll (new l : Lists) : Type 0 where
  pub pents : begins new.pents l.pents ≡ true
  pub edges : begins new.edges l.edges ≡ true
  pub triangles : begins new.triangles l.triangles ≡ true
  pub tets : begins new.tets l.tets ≡ true
  pub tri_to_pents : begins new.tri_to_pents l.tri_to_pents ≡ true
  pub tri_to_pents_starts : begins new.tri_to_pents_starts l.tri_to_pents_starts ≡ true
  pub edge_to_tris : begins new.edge_to_tris l.edge_to_tris ≡ true
  pub edge_to_tris_starts : begins new.edge_to_tris_starts l.edge_to_tris_starts ≡ true
  pub edge_to_pents : begins new.edge_to_pents l.edge_to_pents ≡ true
  pub edge_to_pents_starts : begins new.edge_to_pents_starts l.edge_to_pents_starts ≡ true

pub begin-all : (new l : Lists) → begin_all new l ≡ true → BeginAll new l
unfolding begin_all
begin-all new l h =
    let j = and-true _ (begins new.edge_to_pents_starts l.edge_to_pents_starts) h in
    let i = and-true _ (begins new.edge_to_pents l.edge_to_pents) j.0 in
    let g = and-true _ (begins new.edge_to_tris_starts l.edge_to_tris_starts) i.0 in
    let f = and-true _ (begins new.edge_to_tris l.edge_to_tris) g.0 in
    let e = and-true _ (begins new.tri_to_pents_starts l.tri_to_pents_starts) f.0 in
    let d = and-true _ (begins new.tri_to_pents l.tri_to_pents) e.0 in
    let c = and-true _ (begins new.tets l.tets) d.0 in
    let b = and-true _ (begins new.triangles l.triangles) c.0 in
    let a = and-true (begins new.pents l.pents) (begins new.edges l.edges) b.0 in
    record {
      pents = a.0;
      edges = a.1;
      triangles = b.1;
      tets = c.1;
      tri_to_pents = d.1;
      tri_to_pents_starts = e.1;
      edge_to_tris = f.1;
      edge_to_tris_starts = g.1;
      edge_to_pents = i.1;
      edge_to_pents_starts = j.1;
    }

all_begin : (new l : Lists) → BeginAll new l → begin_all new l ≡ true
unfolding begin_all
all_begin new l b =
    rw (b.pents, b.edges, b.triangles, b.tets, b.tri_to_pents, b.tri_to_pents_starts, b.edge_to_tris, b.edge_to_tris_starts, b.edge_to_pents, b.edge_to_pents_starts) refl

-- ---- both directions

module _ (c : Counts) (l : Lists) where
  forward : is_built c l ≡ true → IsBuilt c l
  unfolding is_built written holds counts_of tri_to_pents edge_to_tris edge_to_pents
  forward h =
      let given = given_of c l in
      let k = and-true _ (begin_all (written (sorted_pents given)) l) h in
      let j = and-true (leb (5 * c.pentachorons) (length l.pents)) (answers (answer_for c l) c) k.0 in
      let long : 5 * c.pentachorons ≤ length l.pents = leb-true _ _ j.0 in
      let done = answers-done (check_of c.vertices given (room_for c.pentachorons)) c.vertices given c j.1 in
      let d = check_done c.vertices given (room_for c.pentachorons) done.0 in
      let v = or-false (eqb c.vertices 0) (ltb 4096 c.vertices) d.0 in
      let some : c.vertices ≡ 0 → ⊥ = eqb-false _ _ v.0 in
      let b = begin-all (written (sorted_pents given)) l k.1 in
      let sorted : sorted_pents given ≡ pents_in c l.pents = given-sorted c l long (said (begins-says _ l.pents) b.pents) in
      let same = same-is c (counts_of c.vertices (sorted_pents given)) done.1 in
      record {
        some_vertices = positive some;
        few_vertices = ltb-false 4096 c.vertices v.1;
        few = omega (arith, given-long c l long, (length-passed (length given) d.1).1);
        long = long;
        rise = subst (AllRise c.vertices) sorted (taken-rises c.vertices given d.3);
        has_edges = subst (λ (ps : List (List ℕ)). HasFaces Edge ps c.edges l.edges) sorted (record { count = same.2; front = said (begins-says _ l.edges) b.edges });
        has_triangles = subst (λ (ps : List (List ℕ)). HasFaces Triangle ps c.triangles l.triangles) sorted (record { count = same.3; front = said (begins-says _ l.triangles) b.triangles });
        has_tets = subst (λ (ps : List (List ℕ)). HasFaces Tet ps c.tets l.tets) sorted (record { count = same.4; front = said (begins-says _ l.tets) b.tets });
        tri_to_pents = subst (λ (ps : List (List ℕ)). holds ps (triangles ps) l.tri_to_pents l.tri_to_pents_starts ≡ true) sorted (rw (b.tri_to_pents, b.tri_to_pents_starts) refl);
        edge_to_tris = subst (λ (ps : List (List ℕ)). holds (triangles ps) (edges ps) l.edge_to_tris l.edge_to_tris_starts ≡ true) sorted (rw (b.edge_to_tris, b.edge_to_tris_starts) refl);
        edge_to_pents = subst (λ (ps : List (List ℕ)). holds ps (edges ps) l.edge_to_pents l.edge_to_pents_starts ≡ true) sorted (rw (b.edge_to_pents, b.edge_to_pents_starts) refl);
      }

  module _ (b : IsBuilt c l) where
    counts_same : same_counts c (counts_of c.vertices (pents_in c l.pents)) ≡ true
    unfolding counts_of
    counts_same =
        is_same c (counts_of c.vertices (pents_in c l.pents)) refl (sym (length-rows 5 c.pentachorons l.pents)) b.has_edges.count b.has_triangles.count b.has_tets.count

    pub lists_begin : begin_all (written (pents_in c l.pents)) l ≡ true
    unfolding written holds tri_to_pents edge_to_tris edge_to_pents
    lists_begin =
        let ps = pents_in c l.pents in
        let t = and-true _ _ b.tri_to_pents in
        let e = and-true _ _ b.edge_to_tris in
        let p = and-true _ _ b.edge_to_pents in
        all_begin (written ps) l
        (record {
          pents = passes (begins-says (flat ps) l.pents) (rows-front 5 c.pentachorons l.pents b.long);
          edges = passes (begins-says _ l.edges) b.has_edges.front;
          triangles = passes (begins-says _ l.triangles) b.has_triangles.front;
          tets = passes (begins-says _ l.tets) b.has_tets.front;
          tri_to_pents = t.0;
          tri_to_pents_starts = t.1;
          edge_to_tris = e.0;
          edge_to_tris_starts = e.1;
          edge_to_pents = p.0;
          edge_to_pents_starts = p.1;
        })

  -- the builder takes the pentachoron list, given room
  pub built-taken : IsBuilt c l → (r : Rooms) → is_short c.pentachorons r ≡ false → check_of c.vertices (given_of c l) r ≡ Done
  built-taken b r room =
      let long = given-long c l b.long in
      let whole : length (given_of c l) % 5 ≡ 0 = omega (arith, long) in
      let n : length (given_of c l) / 5 ≡ c.pentachorons = omega (arith, long) in
      done_check c.vertices (given_of c l) r
      (rw (ne_eqb c.vertices 0 (λ e. omega (arith, b.some_vertices)), le-ltb 4096 c.vertices b.few_vertices) refl)
      (rw (eq-eqb _ _ whole, le-ltb 40960 (length (given_of c l)) (omega (arith, long, b.few))) refl)
      (rw n room)
      (rw (given-rows c l b.long) (no-offence c.vertices 0 (pents_in c l.pents)
      (λ p m. let r = b.rise p m in (all-below c.vertices p r.1, no-repeat p (rising-once p r.0)))))

  backward : IsBuilt c l → is_built c l ≡ true
  unfolding is_built
  backward b =
      let given = given_of c l in
      let sorted : sorted_pents given ≡ pents_in c l.pents = rise-sorted c l b.long b.rise in
      let same : same_counts c (counts_of c.vertices (sorted_pents given)) ≡ true = rw sorted (counts_same b) in
      let begun : begin_all (written (sorted_pents given)) l ≡ true = rw sorted (lists_begin b) in
      rw (le-leb _ _ b.long, done-answers (check_of c.vertices given (room_for c.pentachorons)) c.vertices given c (built-taken b (room_for c.pentachorons) (room-enough c.pentachorons)) same, begun) refl

-- a complex is built where all this holds
pub built-says : (c : Counts) (l : Lists) → Says (IsBuilt c l) (is_built c l)
built-says c l = says-by (is_built c l) (forward c l) (backward c l)

-- ---- what follows

module _ (c : Counts) (l : Lists) (b : IsBuilt c l) where
  -- the pentachorons are sorted
  pub built-sorted : Sorted (pents_in c l.pents)
  built-sorted p m = (b.rise p m).0

  pub built-wide : Wide 5 (pents_in c l.pents)
  built-wide = rows-wide 5 c.pentachorons l.pents b.long

  -- the rows of the lists are the faces
  pub built-edges : edges_in c l.edges ≡ edges (pents_in c l.pents)
  built-edges = has-rows Edge (pents_in c l.pents) c.edges l.edges b.has_edges

  pub built-triangles : triangles_in c l.triangles ≡ triangles (pents_in c l.pents)
  built-triangles = has-rows Triangle (pents_in c l.pents) c.triangles l.triangles b.has_triangles

  -- all that the incidence functions ask
  pub built-tri-to-pents : holds (pents_in c l.pents) (triangles_in c l.triangles) l.tri_to_pents l.tri_to_pents_starts ≡ true
  built-tri-to-pents = rw built-triangles b.tri_to_pents

  pub built-edge-to-tris : holds (triangles_in c l.triangles) (edges_in c l.edges) l.edge_to_tris l.edge_to_tris_starts ≡ true
  built-edge-to-tris = rw (built-triangles, built-edges) b.edge_to_tris

  pub built-edge-to-pents : holds (pents_in c l.pents) (edges_in c l.edges) l.edge_to_pents l.edge_to_pents_starts ≡ true
  built-edge-to-pents = rw built-edges b.edge_to_pents

  pub built_pent-edges : (numbers : List ℕ) → begins (numbers_of Edge (pents_in c l.pents)) numbers ≡ true → Tens (edges_in c l.edges) 2 c.pentachorons l.pents numbers
  built_pent-edges numbers e = record { room = b.long; noted = rw (built-edges, ← edge_numbers (pents_in c l.pents)) e }

  pub built_pent-tris : (numbers : List ℕ) → begins (numbers_of Triangle (pents_in c l.pents)) numbers ≡ true → Tens (triangles_in c l.triangles) 3 c.pentachorons l.pents numbers
  built_pent-tris numbers e = record { room = b.long; noted = rw (built-triangles, ← triangle-numbers (pents_in c l.pents)) e }

  pub built-simplices : Simplices (pents_in c l.pents) (triangles_in c l.triangles)
  built-simplices = rw built-triangles (simplices-of (pents_in c l.pents) built-sorted)

  pub built-lie : Lie (pents_in c l.pents) (triangles_in c l.triangles)
  built-lie = rw built-triangles (lie-of (pents_in c l.pents))
