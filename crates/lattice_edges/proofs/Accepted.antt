-- The list of a lattice's pentachorons: what they are like, that the builder takes them as they are, and that the functions over a lattice's complex take what it leaves. Assumes nothing.
use Rattle.refusals.specs.Refusals.{Done}
use Rattle.std.specs.Prelude.{Err, Ok}
use Prim.Native.Nat.{ℕ, ◌/◌, ◌%◌, ◌≤◌}
use mathlib.Core.Path.{◌≡◌, refl, ap, ◌∙◌}
use mathlib.Core.Bool.{true, cond}
use mathlib.Core.List.Memᴰ
use mathlib.Core.List.{List, map, Memᴰ}
use native.Mathlib.Nat.{mul-le-mul}
use native.Mathlib.Omega.{arith}
use lib.Dec.{ltb}
use lib.ListN.{length}
use borrow.Author.Tests.{eq-eqb, ne_eqb, le-ltb}
use Rattle.refusals.specs.declared.Refusal.TheVariants.{ShortRoom}
use Rattle.lists.specs.Lists.{Once}
use Rattle.lists.specs.Keys.{Distinct}
use Rattle.lists.specs.Rows.{flat}
use Rattle.lists.specs.Sorting.{sort}
use Rattle.lists.proofs.Tests.{passes}
use Rattle.lists.proofs.Elements.{mem-gather}
use Rattle.lists.proofs.Keys.{firsts-distinct, firsts_has, firsts-only}
use Rattle.lists.proofs.Rows.{begins-over}
use Rattle.lists.proofs.Sorting.{sort-mem, sort-rising, rising_ascending, rising-once}
use Rattle.complex.specs.declared.Counts.{Counts}
use Rattle.complex.specs.declared.checks.Rooms.{Rooms}
use Rattle.complex.specs.Builder.{sorted_pents, is_short, check_of, counts_of, Lists, written, over_all, Builds}
use Rattle.complex.proofs.SortedPents.{sorted-is, flat_back}
use Rattle.complex.proofs.Laws.{all-sorted, all-below, no-repeat, no-offence}
use Rattle.comparison.proofs.Rises.{RisesBelow, AllRise}
use Rattle.comparison.proofs.BuiltAgain.{builder-left, builder-built}
use Rattle.foliation.specs.declared.Lattice.{Lattice}
use Rattle.foliation.specs.declared.coords.Coords.{Coords}
use Rattle.foliation.specs.Lattice.{vertex_count, vertex, orders, corners, path, cells, paths, lattice_pents}
use Rattle.foliation.proofs.Sizes.{Lawful, lawful-says}
use Rattle.foliation.proofs.Coordinates.{vertex-below}
use Rattle.foliation.proofs.Orders.{corners-once}
use Rattle.foliation.proofs.Listings.{pents-wide, pents-few, length-flat-pents}
use Rattle.lattice_edges.specs.OnLattice.{has_lattice_pents, lattice_check_of}

-- ---- the pentachoron of a cell and an order

-- its vertices, as they are met
abbrev met : Lattice → Coords → List ℕ → List ℕ
met l c o = map (vertex l) (corners c o)

path-rises : (l : Lattice) → Lawful l → (c : Coords) {o : List ℕ} → Memᴰ o orders → RisesBelow (vertex_count l) (path l c o)
unfolding path
path-rises l ok c {o} m = (
  sort-rising (met l c o) (corners-once l ok c m),
  λ v k.
      let w : (d : Coords) × Memᴰ d (corners c o) × (vertex l d ≡ v) = Memᴰ.of_map (vertex l) (corners c o) (sort-mem (met l c o) k) in
      rw (← w.2) (vertex-below l ok w.0),
)

module _ (l : Lattice) where
  -- ---- all of them

  -- no pentachoron stands twice
  pub pents-once : Distinct (lattice_pents l)
  unfolding lattice_pents
  pents-once = firsts-distinct (paths l)

  -- there are those of all cells and orders, and no others
  pub pents-all : (p : List ℕ) → (Memᴰ p (paths l) → Memᴰ p (lattice_pents l)) × (Memᴰ p (lattice_pents l) → Memᴰ p (paths l))
  unfolding lattice_pents
  pents-all p = (firsts_has (paths l), firsts-only (paths l))

  -- the cell and the order of one
  path-of : (p : List ℕ) → Memᴰ p (lattice_pents l) → (c : Coords) × (o : List ℕ) × Memᴰ o orders × (path l c o ≡ p)
  unfolding paths
  path-of p m =
      let g = mem-gather (λ c. map (path l c) orders) (cells l) ((pents-all p).1 m) in
      let w : (o : List ℕ) × Memᴰ o orders × (path l g.0 o ≡ p) = Memᴰ.of_map (path l g.0) orders g.2 in
      (g.0, w.0, w.1, w.2)

module _ (l : Lattice) (ok : Lawful l) where
  -- ---- their vertices

  -- they rise, and each is below the vertex count
  pub pents-rise : AllRise (vertex_count l) (lattice_pents l)
  pents-rise p m = let w = path-of l p m in rw (← w.3) (path-rises l ok w.0 w.2)

  -- no vertex stands twice in a pentachoron
  pub vertices-once : (p : List ℕ) → Memᴰ p (lattice_pents l) → Once p
  vertices-once p m = rising-once p (pents-rise p m).0

  -- ---- their number

  -- there are at most 8184, and the builder takes 8192
  pub pents-most : length (lattice_pents l) ≤ 8184
  pents-most = omega (arith, pents-few l ok, ok.cells)

  -- ---- the builder

  vertices-some : 16 ≤ vertex_count l
  vertices-some = mul-le-mul ok.t_least (mul-le-mul ok.s_least (mul-le-mul ok.s_least ok.s_least))

  -- the builder refuses the list for want of room alone
  pub builder_accepts : (r : Rooms) → check_of (vertex_count l) (flat (lattice_pents l)) r ≡ cond (is_short (length (lattice_pents l)) r) (Err ShortRoom) Done
  unfolding check_of
  builder_accepts r =
      let given = flat (lattice_pents l) in
      let whole : length given % 5 ≡ 0 = omega (arith, length-flat-pents l ok) in
      let count : length given / 5 ≡ length (lattice_pents l) = omega (arith, length-flat-pents l ok) in
      let none = no-offence (vertex_count l) 0 (lattice_pents l) (λ p m. (all-below (vertex_count l) p (pents-rise p m).1, no-repeat p (vertices-once p m))) in
      rw (ne_eqb (vertex_count l) 0 (λ e. omega (arith, vertices-some)), le-ltb 4096 (vertex_count l) (omega arith), eq-eqb _ _ whole, le-ltb 40960 (length given) (omega (arith, length-flat-pents l ok, pents-most)), flat_back (lattice_pents l) (pents-wide l ok), count, none) refl

  -- the builder's sorted pentachorons are that very list
  pub sorted-same : sorted_pents (flat (lattice_pents l)) ≡ lattice_pents l
  sorted-same = sorted-is (flat (lattice_pents l)) ∙ ap (map sort) (flat_back (lattice_pents l) (pents-wide l ok)) ∙ all-sorted (lattice_pents l) (λ p m. rising_ascending p (pents-rise p m).0)

  -- ---- the builder's complex

  module _ (before after : Lists) (c : Counts) (b : Builds (vertex_count l) (flat (lattice_pents l)) before (Ok c) after) where
    -- counts and lists are those of the lattice's pentachorons
    built : (c ≡ counts_of (vertex_count l) (lattice_pents l)) × (after ≡ over_all (written (lattice_pents l)) before)
    built = let d = builder-left (vertex_count l) (flat (lattice_pents l)) before after c b in (rw sorted-same at d.1, rw sorted-same at d.2)

    has : has_lattice_pents l c after.pents ≡ true
    unfolding has_lattice_pents counts_of written over_all
    has =
        let v : c.vertices ≡ vertex_count l = ap (λ (d : Counts). d.vertices) built.0 in
        let n : c.pentachorons ≡ length (lattice_pents l) = ap (λ (d : Counts). d.pentachorons) built.0 in
        rw (eq-eqb _ _ v, eq-eqb _ _ n, begins-over (flat (lattice_pents l)) before.pents after.pents (ap (λ (d : Lists). d.pents) built.1)) refl

    -- edge types and flat lengths are refused for it only where the lent list is shorter than the number of edges
    pub lattice-answers : (room : ℕ) → lattice_check_of l c after room ≡ cond (ltb room c.edges) (Err ShortRoom) Done
    unfolding lattice_check_of
    lattice-answers room = rw (passes (lawful-says l) ok, has, builder-built (vertex_count l) (flat (lattice_pents l)) before after c b) refl
