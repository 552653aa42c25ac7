-- The builder as a whole: what its parts leave, joined. Assumes nothing.
use Prim.Native.Nat.{ℕ, ◌*◌, ◌/◌, ◌≤◌}
use mathlib.Core.Path.{◌≡◌, refl, sym, ap, ◌∙◌, subst}
use mathlib.Core.List.Memᴰ
use mathlib.Core.List.{List, Memᴰ}
use native.Mathlib.Nat.{mul-le-mul_right}
use native.Mathlib.Omega.{arith}
use lib.ListN.{length, take, replicate, length-replicate}
use Rattle.lists.specs.Lists.{Rising}
use Rattle.lists.specs.Rows.{flat, rows, starts, over}
use Rattle.lists.specs.Sorting.{sort}
use Rattle.lists.specs.Groups.{groups}
use Rattle.lists.proofs.Rows.{length-flat, over-take}
use Rattle.lists.proofs.Sorting.{sort-rising}
use Rattle.complex.specs.declared.Counts.{Counts}
use Rattle.complex.specs.declared.numbering.Face.{Face}
use Rattle.complex.specs.declared.numbering.Face.TheVariants.{Edge, Triangle, Tet}
use Rattle.complex.specs.declared.numbering.FaceCounts.{FaceCounts}
use Rattle.complex.specs.Complex.{width_of, count_of, faces, edges, triangles, tri_to_pents, edge_to_tris, edge_to_pents, numbers_of}
use Rattle.complex.specs.declared.ListsMut.{ListsMut}
use Rattle.complex.specs.Builder.{Lists, pentachorons, sorted_pents, counts_of, lists, written, over_all}
use Rattle.complex.specs.Lent.{lists_in, Grouped}
use Rattle.complex.specs.Parts.{Faces, AllFaces, Numbered, AllNumbered, EdgesOf, Lent, Adjacent, Buildable}
use Rattle.complex.proofs.SortedPents.{sorted-wide-all, length-sorted-all, sorted_back}
use Rattle.complex.proofs.Meetings.{count-le}
use Rattle.complex.proofs.Lying.{Sorted}
use Rattle.complex.proofs.FaceNumbers.{length-numbers, numbers-below, face-met, consistent, faces-few, tri_to_pents_lem, edge_to_pents_lem, edge-to-tris-stored}

-- room in a list of zeros, however long: its length is not computed
pub zeros-room : (m n : ℕ) → n ≤ m → n ≤ length (replicate {A = ℕ} m 0)
zeros-room m n h = rw length-replicate h

module _ (given : List ℕ) (l : ListsMut) (ok : Buildable given (lists_in l)) where
  -- ---- the sorted pentachorons

  pub many : length (sorted_pents given) ≡ length given / 5
  many = length-sorted-all given

  pub sorted-rising : Sorted (sorted_pents given)
  unfolding sorted_pents
  sorted-rising p m =
      let w : (q : List ℕ) × Memᴰ q (pentachorons given) × (sort q ≡ p) = Memᴰ.of_map sort (pentachorons given) m in
      subst Rising w.2 (sort-rising w.0 (ok.once w.0 w.1))

  length-pents : length (flat (sorted_pents given)) ≡ length given
  length-pents = length-flat 5 (sorted_pents given) (sorted-wide-all given) ∙ omega (arith, many, ok.whole)

  module _ (s : List ℕ) (left : s ≡ over (flat (sorted_pents given)) l.pents.now) where
    part : take (length given) s ≡ flat (sorted_pents given)
    part = ap (take (length given)) left ∙ over-take (flat (sorted_pents given)) l.pents.now (length given) length-pents

    pub part-long : length (take (length given) s) ≡ length given
    part-long = ap length part ∙ length-pents

    part-rows : rows 5 (length (take (length given) s) / 5) (take (length given) s) ≡ sorted_pents given
    part-rows = ap pentachorons part ∙ sorted_back given

    -- what is numbered of the list's front is numbered of the sorted pentachorons
    pub on-sorted : {es es' ts ts' ks ks' pe pe' pt pt' : List ℕ} {r : FaceCounts} → AllNumbered (rows 5 (length (take (length given) s) / 5) (take (length given) s)) es es' ts ts' ks ks' pe pe' pt pt' r
        → AllNumbered (sorted_pents given) es es' ts ts' ks ks' pe pe' pt pt' r
    on-sorted {es} {es'} {ts} {ts'} {ks} {ks'} {pe} {pe'} {pt} {pt'} {r} w = subst (λ (ps : List (List ℕ)). AllNumbered ps es es' ts ts' ks ks' pe pe' pt pt' r) part-rows w

    -- there is room for the faces of a kind
    faces-room : (f : Face) (list next numbers : ℕ) → width_of f * (count_of f * (length given / 5)) ≤ list → 81920 ≤ next → 81920 ≤ numbers
        → Faces f (length (take (length given) s) / 5) (length (take (length given) s)) list next numbers
    faces-room f list next numbers room links noted =
        let n : length (take (length given) s) / 5 ≡ length given / 5 = omega (arith, part-long) in
        let c : count_of f * (length given / 5) ≤ 10 * (length given / 5) = mul-le-mul_right (length given / 5) (count-le f) in
        rw (n, part-long)
        (record {
          searched = record { five = omega (arith, ok.whole); few = omega (arith, ok.few); links = omega (arith, ok.few); numbered = omega (arith, ok.few) };
          room = room;
        })

    -- and for those of all three kinds
    pub all-faces-room : (next pe pt : ℕ) → 81920 ≤ next → 81920 ≤ pe → 81920 ≤ pt
        → AllFaces (length (take (length given) s)) (length l.edges.now) (length l.triangles.now) (length l.tets.now) next pe pt
    all-faces-room next pe pt links edges tris =
        record {
          for_tets = faces-room Tet (length l.tets.now) next pt (omega (arith, ok.tets_room)) links tris;
          for_edges = faces-room Edge (length l.edges.now) next pe (omega (arith, ok.edges_room)) links edges;
          for_triangles = faces-room Triangle (length l.triangles.now) next pt (omega (arith, ok.triangles_room)) links tris;
        }

  -- ---- the numbers of faces

  pub numbers-long : (f : Face) → count_of f ≡ 10 → length (numbers_of f (sorted_pents given)) ≡ 2 * length given
  numbers-long f ten =
      length-numbers (sorted_pents given) (sorted-wide-all given) f ∙ rw (ten, many) (omega (arith, ok.whole))

  pub numbers-part : (f : Face) → count_of f ≡ 10 → (u u' : List ℕ) → u' ≡ over (numbers_of f (sorted_pents given)) u → take (2 * length given) u' ≡ numbers_of f (sorted_pents given)
  numbers-part f ten u u' e = ap (take (2 * length given)) e ∙ over-take (numbers_of f (sorted_pents given)) u (2 * length given) (numbers-long f ten)

  few-faces : (f : Face) → count_of f ≡ 10 → length (faces f (sorted_pents given)) ≤ 2 * length given
  few-faces f ten = omega (arith, faces-few (sorted_pents given) (sorted-wide-all given) sorted-rising f, numbers-long f ten, length-numbers (sorted_pents given) (sorted-wide-all given) f)

  -- the lengths of the adjacency lists
  abbrev pub lent : Lent
  lent =
      record {
        tri_to_pents = length l.tri_to_pents_items.now;
        tri_to_pents_starts = length l.tri_to_pents_starts.now;
        edge_to_tris = length l.edge_to_tris_items.now;
        edge_to_tris_starts = length l.edge_to_tris_starts.now;
        edge_to_pents = length l.edge_to_pents_items.now;
        edge_to_pents_starts = length l.edge_to_pents_starts.now;
      }

  pub adjacent : (scratch : ℕ) → 245760 ≤ scratch
      → Adjacent (numbers_of Edge (sorted_pents given)) (numbers_of Triangle (sorted_pents given)) (length (edges (sorted_pents given))) (length (triangles (sorted_pents given))) scratch lent
  adjacent scratch h =
      let t = few-faces Triangle refl in
      let e = few-faces Edge refl in
      record {
        consistent = consistent (sorted_pents given) (sorted-wide-all given) sorted-rising scratch (omega (arith, ok.few));
        edge_below = numbers-below (sorted_pents given) (sorted-wide-all given) sorted-rising Edge;
        tri_below = numbers-below (sorted_pents given) (sorted-wide-all given) sorted-rising Triangle;
        tri_met = face-met (sorted_pents given) (sorted-wide-all given) sorted-rising Triangle;
        few = omega (arith, numbers-long Triangle refl, ok.few);
        tris = omega (arith, ok.few);
        most = omega (arith, ok.few);
        room_tp = omega (arith, numbers-long Triangle refl, ok.tp_room);
        room_tp_starts = omega (arith, ok.tp_starts_room);
        room_et = omega (arith, ok.et_room);
        room_et_starts = omega (arith, ok.et_starts_room);
        room_ep = omega (arith, numbers-long Edge refl, ok.ep_room);
        room_ep_starts = omega (arith, ok.ep_starts_room);
      }

  -- ---- what is left

  module _ (n pentachorons nt ne nk : ℕ) (p' e' t' k' ut ut' ue ue' uk uk' : List ℕ) (count : pentachorons ≡ length given / 5) (sorted : p' ≡ over (flat (sorted_pents given)) l.pents.now)
      (on_tets : Numbered Tet (sorted_pents given) l.tets.now k' uk uk' nk) (on_edges : Numbered Edge (sorted_pents given) l.edges.now e' ue ue' ne)
      (on_triangles : Numbered Triangle (sorted_pents given) l.triangles.now t' ut ut' nt) where
    pub counts-are : ◌≡◌ {A = Counts} (record { vertices = n; pentachorons = pentachorons; edges = ne; triangles = nt; tets = nk }) (counts_of n (sorted_pents given))
    unfolding counts_of
    counts-are = rw (count ∙ sym many, on_edges.count, on_triangles.count, on_tets.count) refl

    module _ (pe pt te : List ℕ) (b b' : ListsMut) (is-pe : pe ≡ numbers_of Edge (sorted_pents given)) (is-pt : pt ≡ numbers_of Triangle (sorted_pents given)) (room : 245760 ≤ length te)
        (edges-of : EdgesOf pe pt te (length pt)) (left : Grouped pe pt te ne nt b b')
        (is-b : lists_in b ≡ lists p' e' t' k' l.tri_to_pents_items.now l.tri_to_pents_starts.now l.edge_to_tris_items.now l.edge_to_tris_starts.now l.edge_to_pents_items.now l.edge_to_pents_starts.now) where
      tp-groups : groups 10 nt pt ≡ tri_to_pents (sorted_pents given)
      tp-groups = rw (on_triangles.count, is-pt) (tri_to_pents_lem (sorted_pents given) (sorted-wide-all given) sorted-rising)

      ep-groups : groups 10 ne pe ≡ edge_to_pents (sorted_pents given)
      ep-groups = rw (on_edges.count, is-pe) (edge_to_pents_lem (sorted_pents given) (sorted-wide-all given) sorted-rising)

      et-groups : groups 3 ne (take (3 * nt) te) ≡ edge_to_tris (sorted_pents given)
      et-groups =
          rw (on_edges.count, on_triangles.count)
          (edge-to-tris-stored (sorted_pents given) (sorted-wide-all given) sorted-rising te (omega (arith, few-faces Triangle refl, ok.few))
          (rw (is-pe, is-pt) at edges-of))

      pub lists-are : lists_in b' ≡ over_all (written (sorted_pents given)) (lists_in l)
      unfolding written over_all
      lists-are =
          rw (
            left.pents ∙ ap (λ (x : Lists). x.pents) is-b ∙ sorted,
            left.edges ∙ ap (λ (x : Lists). x.edges) is-b ∙ on_edges.rows,
            left.triangles ∙ ap (λ (x : Lists). x.triangles) is-b ∙ on_triangles.rows,
            left.tets ∙ ap (λ (x : Lists). x.tets) is-b ∙ on_tets.rows,
            left.tri_to_pents.items_after ∙ ap (over (flat (groups 10 nt pt))) (ap (λ (x : Lists). x.tri_to_pents) is-b) ∙ ap (λ (g : List (List ℕ)). over (flat g) l.tri_to_pents_items.now) tp-groups,
            left.tri_to_pents.starts_after ∙ ap (over (starts (groups 10 nt pt))) (ap (λ (x : Lists). x.tri_to_pents_starts) is-b) ∙ ap (λ (g : List (List ℕ)). over (starts g) l.tri_to_pents_starts.now) tp-groups,
            left.edge_to_tris.items_after ∙ ap (over (flat (groups 3 ne (take (3 * nt) te)))) (ap (λ (x : Lists). x.edge_to_tris) is-b) ∙ ap (λ (g : List (List ℕ)). over (flat g) l.edge_to_tris_items.now) et-groups,
            left.edge_to_tris.starts_after ∙ ap (over (starts (groups 3 ne (take (3 * nt) te)))) (ap (λ (x : Lists). x.edge_to_tris_starts) is-b) ∙ ap (λ (g : List (List ℕ)). over (starts g) l.edge_to_tris_starts.now) et-groups,
            left.edge_to_pents.items_after ∙ ap (over (flat (groups 10 ne pe))) (ap (λ (x : Lists). x.edge_to_pents) is-b) ∙ ap (λ (g : List (List ℕ)). over (flat g) l.edge_to_pents_items.now) ep-groups,
            left.edge_to_pents.starts_after ∙ ap (over (starts (groups 10 ne pe))) (ap (λ (x : Lists). x.edge_to_pents_starts) is-b) ∙ ap (λ (g : List (List ℕ)). over (starts g) l.edge_to_pents_starts.now) ep-groups,
          )
          refl

-- the same, for lists and counts that are so
pub adjacent_as : (given : List ℕ) (l : ListsMut) (ok : Buildable given (lists_in l)) (pe pt : List ℕ) (ne nt scratch : ℕ) → pe ≡ numbers_of Edge (sorted_pents given) → pt ≡ numbers_of Triangle (sorted_pents given)
    → ne ≡ length (edges (sorted_pents given)) → nt ≡ length (triangles (sorted_pents given)) → 245760 ≤ scratch → Adjacent pe pt ne nt scratch (lent given l ok)
adjacent_as given l ok pe pt ne nt scratch is-pe is-pt is_ne is-nt h = rw (is-pe, is-pt, is_ne, is-nt) (adjacent given l ok scratch h)
