-- The triangle opposite each pair of a pentachoron's vertices: its vertices by a table, and what it adds. Assumes nothing.
use Rattle.std.proofs.Common.{rules, tests}
use Rattle.std.specs.Prelude.{◌≢◌}
use Prim.Native.Nat.{ℕ, ◌<◌}
use mathlib.Core.Bool.{Bool, true, false}
use mathlib.Core.List.{List, [], ◌∷◌, map}
use mathlib.Core.Path.{◌≡◌, refl, sym, ap, ◌∙◌}
use lib.Ieee.{Float, lt}
use lib.ListN.{get_or}
use Rattle.std.specs.Prelude.{Ok}
use Rattle.lists.specs.Lists.{keep, upto, combos, among}
use Rattle.lists.proofs.Elements.{get_or-map, get_or-table}
use Rattle.lorentzian.specs.Triangle.{no_triangle, grad_in_pent, grad_answer}
use Rattle.hinges.specs.Action.{area_sq_of, abs_area, area_limit, factor_of}
use Rattle.second_derivatives.specs.SecondDerivatives.{left_by, lengths_of, area_slope, row_adds, triangle_adds, slope_row}
use Rattle.second_derivatives.specs.Parts.{slope_rows}

-- ---- tables

-- the vertices of each triangle
abbrev pub vertex_table : List (List ℕ)
vertex_table =
    (2 ∷ 3 ∷ 4 ∷ []) ∷ (1 ∷ 3 ∷ 4 ∷ []) ∷ (1 ∷ 2 ∷ 4 ∷ []) ∷ (1 ∷ 2 ∷ 3 ∷ []) ∷ (0 ∷ 3 ∷ 4 ∷ [])
    ∷ (0 ∷ 2 ∷ 4 ∷ []) ∷ (0 ∷ 2 ∷ 3 ∷ []) ∷ (0 ∷ 1 ∷ 4 ∷ []) ∷ (0 ∷ 1 ∷ 3 ∷ []) ∷ (0 ∷ 1 ∷ 2 ∷ []) ∷ []

vertices-all : vertex_table ≡ map left_by (upto 10)
unfolding upto combos keep among
vertices-all = refl

triangles-all : map (λ v. no_triangle (get_or v 0 0) (get_or v 1 0) (get_or v 2 0)) vertex_table ≡ map (λ i. false) (upto 10)
unfolding upto no_triangle
triangles-all = refl

-- numbers that are three of the five vertices
three_vertices : (a b c : ℕ) → no_triangle a b c ≡ false → (a < 5) × (b < 5) × (c < 5) × (a ≢ b) × (a ≢ c) × (b ≢ c)
unfolding no_triangle
three_vertices a b c e = search (rules, tests)

module _ (k : ℕ) (h : k < 10) where
  -- the table has the vertices that a pair leaves
  pub vertices-are : get_or vertex_table k [] ≡ left_by k
  vertices-are = ap (λ (l : List (List ℕ)). get_or l k []) vertices-all ∙ get_or-table left_by 10 k [] h

  -- the three vertices are a triangle
  is-triangle : no_triangle (get_or (get_or vertex_table k []) 0 0) (get_or (get_or vertex_table k []) 1 0) (get_or (get_or vertex_table k []) 2 0) ≡ false
  is-triangle =
      sym (get_or-map (λ v. no_triangle (get_or v 0 0) (get_or v 1 0) (get_or v 2 0)) vertex_table k [] true h)
      ∙ ap (λ (l : List Bool). get_or l k true) triangles-all ∙ get_or-table (λ i. false) 10 k true h

  -- so each two of them have an edge
  pub have-edges : let v = get_or vertex_table k [] in (get_or v 0 0 < 5) × (get_or v 1 0 < 5) × (get_or v 2 0 < 5) × (get_or v 0 0 ≢ get_or v 1 0) × (get_or v 0 0 ≢ get_or v 2 0) × (get_or v 1 0 ≢ get_or v 2 0)
  have-edges = three_vertices _ _ _ is-triangle

  -- its three vertices are no refusal of the gradient
  pub gradient-is : (s : List Float) → grad_answer s (get_or vertex_table k []) ≡ Ok (grad_in_pent s (get_or (left_by k) 0 0) (get_or (left_by k) 1 0) (get_or (left_by k) 2 0))
  gradient-is s = rw (is-triangle, vertices-are) refl

-- ---- what it adds

module _ (s jac : List Float) (k : ℕ) (own : List Float) (area : Float) (oe : own ≡ lengths_of s (left_by k)) (ae : area ≡ abs_area own) where
  -- an area below the limit adds nothing
  pub area-skipped : lt area area_limit ≡ true → triangle_adds s jac k ≡ []
  unfolding triangle_adds
  area-skipped t = rw (← oe, ← ae, t) refl

  -- another adds its rows
  pub area-kept : lt area area_limit ≡ false → (square factor : Float) (grad : List Float) → square ≡ area_sq_of own → factor ≡ factor_of square area
      → grad ≡ grad_in_pent s (get_or (left_by k) 0 0) (get_or (left_by k) 1 0) (get_or (left_by k) 2 0) → slope_rows factor grad jac k ≡ triangle_adds s jac k
  unfolding triangle_adds slope_rows slope_row row_adds area_slope
  area-kept t square factor grad se fe ge =
      let u : lt (abs_area (lengths_of s (left_by k))) area_limit ≡ false = ap (λ (x : Float). lt x area_limit) (sym (ae ∙ ap abs_area oe)) ∙ t in
      rw (u, fe, se, ge, ae, oe) refl
