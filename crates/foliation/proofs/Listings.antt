-- The pentachorons of a lattice as they are listed: each has five vertices, and there are 24 a cell before repeated ones go. Assumes nothing.
use Prim.Native.Nat.{ℕ, ◌+◌, ◌*◌, ◌/◌, ◌%◌, ◌≤◌}
use mathlib.Core.Path.{◌≡◌, refl, sym, ap, ◌∙◌}
use mathlib.Core.List.Memᴰ
use mathlib.Core.List.{List, [], ◌∷◌, ◌++◌, map, map-append, Memᴰ}
use native.Mathlib.Nat.{mod-lt}
use native.Mathlib.Numerals.{add-one}
use native.Mathlib.Omega.{arith}
use lib.ListN.{length, take, drop, replicate, length-map, length-replicate}
use Rattle.lists.specs.Lists.{upto}
use Rattle.lists.specs.Rows.{flat, rows, Wide, over}
use Rattle.lists.specs.Chains.{Ready, Met}
use Rattle.lists.proofs.Elements.{length-upto}
use Rattle.lists.proofs.Keys.{firsts-only, firsts-room}
use Rattle.lists.proofs.Rows.{flat-snoc, length-flat, rows-flat, over-take, over-turn}
use Rattle.lists.proofs.Chains.{indexed-none, met-count, met-rows}
use Rattle.foliation.specs.declared.Lattice.{Lattice}
use Rattle.foliation.specs.Lattice.{vertex_count, coords_of, paths, lattice_pents}
use Rattle.foliation.specs.Parts.{path_at}
use Rattle.foliation.proofs.Sizes.{Lawful}
use Rattle.foliation.proofs.Orders.{order-at, path-five}
use Rattle.foliation.proofs.Cells.{paths-numbered}

-- ---- one after the other

-- a pentachoron has five vertices
pub length-path-at : (l : Lattice) (k : ℕ) → length (path_at l k) ≡ 5
unfolding path_at
length-path-at l k = path-five l (coords_of l (k / 24)) (order-at (k % 24) (mod-lt k (omega arith)))

-- the first n, repeated ones counted
abbrev pub paths_to : Lattice → ℕ → List (List ℕ)
paths_to l n = map (path_at l) (upto n)

to-wide : (l : Lattice) (n : ℕ) → Wide 5 (paths_to l n)
to-wide l n x m =
    let w : (k : ℕ) × Memᴰ k (upto n) × (path_at l k ≡ x) = Memᴰ.of_map (path_at l) (upto n) m in
    ap length (sym w.2) ∙ length-path-at l w.0

length_to : (l : Lattice) (n : ℕ) → length (paths_to l n) ≡ n
length_to l n = length-map (upto n) (path_at l) ∙ length-upto n

pub length-flat-to : (l : Lattice) (n : ℕ) → length (flat (paths_to l n)) ≡ 5 * n
length-flat-to l n = length-flat 5 (paths_to l n) (to-wide l n) ∙ ap (λ (m : ℕ). 5 * m) (length_to l n)

-- a turn of `write_paths`
pub paths-turn : (l : Lattice) (old out out' : List ℕ) (k : ℕ) → out ≡ flat (paths_to l k) ++ drop (5 * k) old
    → out' ≡ take (5 * k) out ++ path_at l k ++ drop (5 * k + 5) out → out' ≡ flat (paths_to l (k + 1)) ++ drop (5 * (k + 1)) old
unfolding upto
paths-turn l old out out' k i e =
    let z : 5 * k + 5 ≡ 5 * (k + 1) = omega arith in
    over-turn (flat (paths_to l k)) (path_at l k) old out out' (5 * k) (5 * k + 5) (length-flat-to l k) (omega arith) i e
    ∙ rw (z, add-one k, map-append (path_at l) (upto k) (k ∷ []), flat-snoc (paths_to l k) (path_at l k)) refl

-- ---- all of them

module _ (l : Lattice) (ok : Lawful l) where
  length-paths : length (paths l) ≡ 24 * vertex_count l
  length-paths = ap length (paths-numbered l ok) ∙ length_to l (24 * vertex_count l)

  paths-wide : Wide 5 (paths l)
  paths-wide = rw (paths-numbered l ok) (to-wide l (24 * vertex_count l))

  -- written flat, the pentachorons of all cells are read back
  pub paths-back : (given old : List ℕ) → given ≡ over (flat (paths l)) old → rows 5 (24 * vertex_count l) given ≡ paths l
  unfolding over
  paths-back given old e = rw (e, ← length-paths) (rows-flat 5 (paths l) _ paths-wide)

  -- scratch of fixed length has room for them
  pub paths-room : (zeros given : List ℕ) (m : ℕ) → m ≡ 40920 → zeros ≡ replicate m 0 → length given ≡ length zeros → 120 * vertex_count l ≤ length given
  paths-room zeros given m q r e = omega (arith, ok.cells, ap length r, length-replicate {A = ℕ} m 0)

  -- ---- the first of equals kept

  -- room for all of them, with no row met yet
  pub ready-all : (e h x u : List ℕ) (m n : ℕ) → m ≡ 32768 → h ≡ replicate m 0 → n ≡ 8184 → x ≡ replicate n 0 → u ≡ replicate n 0 → 120 * vertex_count l ≤ length e
      → Ready 5 e h x u 0 0 (24 * vertex_count l)
  unfolding rows
  ready-all e h x u m n q r k s v room =
      record {
        indexed = indexed-none h x m q r;
        room = omega (arith, room);
        links = omega (arith, ok.cells, ap length s, length-replicate {A = ℕ} n 0);
        numbers = omega (arith, ok.cells, ap length v, length-replicate {A = ℕ} n 0);
        few = omega (arith, ok.cells);
      }

  -- what is met is the list of the lattice
  pub met-pents : (e e' h x u u' : List ℕ) (r : ℕ) → Met 5 e e' h x u u' 0 0 (paths l) r → length e' ≡ length e → 120 * vertex_count l ≤ length e
      → (r ≡ length (lattice_pents l)) × (e' ≡ over (flat (lattice_pents l)) e)
  unfolding lattice_pents
  met-pents e e' h x u u' r met same room =
      (met-count 5 e e' h x u u' (paths l) r met, met-rows 5 e e' h x u u' (paths l) r met (omega (arith, met.to, length-paths)))

  -- ---- the list

  -- each has five vertices
  pub pents-wide : Wide 5 (lattice_pents l)
  unfolding lattice_pents
  pents-wide p m = paths-wide p (firsts-only (paths l) m)

  -- there are at most 24 a cell
  pub pents-few : length (lattice_pents l) ≤ 24 * vertex_count l
  unfolding lattice_pents
  pents-few = omega (arith, firsts-room (paths l), length-paths)

  -- written flat, they are five numbers each
  pub length-flat-pents : length (flat (lattice_pents l)) ≡ 5 * length (lattice_pents l)
  length-flat-pents = length-flat 5 (lattice_pents l) pents-wide

  -- what is written is read back
  pub pents-front : (old own : List ℕ) (r : ℕ) → r ≡ length (lattice_pents l) → own ≡ over (flat (lattice_pents l)) old → take (5 * r) own ≡ flat (lattice_pents l)
  pents-front old own r n e = ap (take (5 * r)) e ∙ over-take (flat (lattice_pents l)) old (5 * r) (omega (arith, length-flat-pents))
