-- The areas of triangles, the action and its gradient, from a table of hinges. Definitions only.
use Rattle.std.specs.Prelude.{ℕ, cond, length, get_or, replicate, Float}
use mathlib.Core.List.{List, [], ◌∷◌, map, foldl}
use Rattle.std.specs.Float.{nan}
use Rattle.std.specs.Float.Ieee.{neg, lt, le}
use Rattle.floats.specs.Ops.{◌⊕◌, ◌⊗◌, ◌⊘◌, dbl, zero, one, two}
use Rattle.floats.specs.Methods.{abs_of}
use Rattle.root.specs.Root.{root_of}
use Rattle.lists.specs.Lists.{gather, upto}
use Rattle.lists.specs.Loops.{scatter}
use Rattle.complex.specs.Complex.{row_numbers}
use Rattle.lorentzian.specs.Triangle.{area_sq, area_sq_grad}
use Rattle.hinges.specs.Hinges.{FaceLists, lengths_at, hinges, deficits_of}

-- ---- a triangle

-- the numbers of the edges 01, 02, 12 of triangle t
abbrev pub edges_at : FaceLists → ℕ → List ℕ
edges_at F t = row_numbers F.edges 2 (get_or F.triangles t [])

-- its three squared lengths
unfoldable pub tri_lengths : FaceLists → List Float → ℕ → List Float
tri_lengths F ls t = lengths_at ls (edges_at F t)

-- the squared area of three squared lengths
abbrev pub area_sq_of : List Float → Float
area_sq_of s = area_sq (get_or s 0 nan) (get_or s 1 nan) (get_or s 2 nan)

-- the root of a squared area, its sign cleared
unfoldable pub abs_area : List Float → Float
abs_area s = root_of (abs_of (area_sq_of s))

-- ---- the action

-- the sum of all areas, each times its deficit; none is skipped
unfoldable pub action_of : FaceLists → List Float → List Float → Float
action_of F ls deficits = foldl (λ sum t. sum ⊕ abs_area (tri_lengths F ls t) ⊗ get_or deficits t nan) zero (upto (length F.triangles))

-- `lorentzian_regge_action`
abbrev pub action : FaceLists → List Float → Float
action F ls = action_of F ls (deficits_of (hinges F ls))

-- ---- the gradient

-- below it an area is skipped: 1e-30
abbrev pub area_limit : Float
area_limit = dbl 0x39b4_484b_feeb_c2a0

-- the sign of a squared area, over twice the area; the sign of a NaN is -1
unfoldable pub factor_of : Float → Float → Float
factor_of square area = cond (le zero square) one (neg one) ⊘ (two ⊗ area)

-- what a triangle of three squared lengths and an area adds at its three edges
unfoldable pub contribution_of : List Float → Float → Float → List Float
contribution_of s area deficit = map (λ g. factor_of (area_sq_of s) area ⊗ g ⊗ deficit) (area_sq_grad (get_or s 0 nan) (get_or s 1 nan) (get_or s 2 nan))

-- three numbers of edges with what is added there
abbrev pub at_three : List ℕ → List Float → List (ℕ × Float)
at_three es xs = (get_or es 0 0, get_or xs 0 nan) ∷ (get_or es 1 0, get_or xs 1 nan) ∷ (get_or es 2 0, get_or xs 2 nan) ∷ []

-- what a triangle adds, and where; nothing if its area is skipped, which a NaN is not
unfoldable pub contributions_of : List ℕ → List Float → Float → List (ℕ × Float)
contributions_of es s deficit = cond (lt (abs_area s) area_limit) [] (at_three es (contribution_of s (abs_area s) deficit))

-- what triangle t adds, and where
unfoldable pub contributions : FaceLists → List Float → List Float → ℕ → List (ℕ × Float)
contributions F ls deficits t = contributions_of (edges_at F t) (tri_lengths F ls t) (get_or deficits t nan)

-- the sum of what all triangles add at each edge
unfoldable pub gradient_of : FaceLists → List Float → List Float → List Float
gradient_of F ls deficits = scatter nan ◌⊕◌ (gather (contributions F ls deficits) (upto (length F.triangles))) (replicate (length F.edges) zero)

-- `lorentzian_regge_action_grad`
abbrev pub gradient : FaceLists → List Float → List Float
gradient F ls = gradient_of F ls (deficits_of (hinges F ls))
