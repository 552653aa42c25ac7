-- The cells of a lattice in the order of their vertices, and its pentachorons one after the other. Assumes nothing.
use Prim.Native.Nat.{ℕ, ◌*◌, ◌/◌, ◌%◌}
use mathlib.Core.Path.{◌≡◌, refl, ap, ◌∙◌}
use mathlib.Core.List.{List, [], map}
use native.Mathlib.Nat.{div-div-eq-div-mul}
use native.Mathlib.Omega.{arith}
use lib.ListN.{get_or}
use Rattle.lists.specs.Lists.{gather, upto}
use Rattle.lists.proofs.Elements.{gather-map, gather-same, gather_loops, map_loops, map_same, map-upto}
use Rattle.foliation.specs.declared.Lattice.{Lattice}
use Rattle.foliation.specs.declared.coords.Coords.{Coords}
use Rattle.foliation.specs.Lattice.{vertex_count, coords, coords_of, swap, permute, orders, path, cells, paths}
use Rattle.foliation.specs.Parts.{path_at}
use Rattle.foliation.proofs.Sizes.{Lawful}

module _ (l : Lattice) (ok : Lawful l) where
  -- the points along the time axis
  nt : ℕ
  nt = l.n_t

  -- the points along an axis of space
  ns : ℕ
  ns = l.n_s

  -- the line of cells along the time axis
  line : ℕ → ℕ → ℕ → List Coords
  line x y z = map (λ t. coords t x y z) (upto nt)

  -- the loops are one loop over the vertices
  pub cells-numbered : cells l ≡ map (coords_of l) (upto (vertex_count l))
  unfolding cells coords_of nt ns line
  cells-numbered =
      gather_loops (λ y z. gather (λ x. line x y z) (upto ns)) ns ns (omega (arith, ok.s_least))
      ∙ gather_loops (λ x k. line x (k % ns) (k / ns)) ns (ns * ns) (omega (arith, ok.s_least))
      ∙ map_loops (λ t j. coords t (j % ns) (j / ns % ns) (j / ns / ns)) nt (ns * (ns * ns)) (omega (arith, ok.t_least))
      ∙ map_same _ (coords_of l) (upto (vertex_count l)) (λ k m. rw (div-div-eq-div-mul (k / nt) ns ns) refl)

  -- the pentachorons are those of one loop over the vertices and the orders
  pub paths-numbered : paths l ≡ map (path_at l) (upto (24 * vertex_count l))
  unfolding paths path_at orders permute swap gather upto
  paths-numbered =
      ap (gather (λ c. map (path l c) orders)) cells-numbered
      ∙ gather-map (λ c. map (path l c) orders) (coords_of l) (upto (vertex_count l))
      ∙ gather-same (λ v. map (path l (coords_of l v)) orders) (λ v. map (λ i. path l (coords_of l v) (get_or orders i [])) (upto 24)) (upto (vertex_count l))
      (λ v m. map-upto (path l (coords_of l v)) orders [] [])
      ∙ map_loops (λ i v. path l (coords_of l v) (get_or orders i [])) 24 (vertex_count l) (omega arith)
