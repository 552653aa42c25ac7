-- What one triangle and one pentachoron add to the Hessian: second derivatives of areas, and derivatives of dihedrals. Definitions only.
-- An addend is a row, a column and a value.
use Rattle.std.specs.Prelude.{ℕ, ◌+◌, ◌*◌, not, cond, List, [], ◌∷◌, map, eqb, Float, get_or}
use Rattle.std.specs.Float.{nan}
use Rattle.std.specs.Float.Ieee.{neg, lt, le}
use Rattle.floats.specs.Ops.{◌⊖◌, ◌⊗◌, ◌⊘◌, dbl, zero, one, two}
use Rattle.floats.specs.Methods.{abs_of}
use Rattle.lists.specs.Lists.{keep, gather, upto, among}
use Rattle.lorentzian.specs.Triangle.{area_sq_grad, edge_idx, grad_in_pent}
use Rattle.jacobian.specs.Jacobian.{jacobian}
use Rattle.hinges.specs.Hinges.{lengths_at, local_pairs}
use Rattle.hinges.specs.Action.{area_sq_of, abs_area, area_limit, factor_of}

-- ---- the first term: second derivatives of the area, times the deficit

-- the second derivative of a squared area by the i-th and the j-th squared length
abbrev pub area_sq_second : ℕ → ℕ → Float
area_sq_second i j = cond (eqb i j) (neg one) one ⊘ dbl 0x4020_0000_0000_0000

-- the second derivative of an area as the Rust has it: the sign of the squared area multiplies the first part only
unfoldable pub area_second : List Float → Float → ℕ → ℕ → Float
area_second s area i j =
    let grad = area_sq_grad (get_or s 0 nan) (get_or s 1 nan) (get_or s 2 nan) in
    cond (le zero (area_sq_of s)) one (neg one) ⊗ area_sq_second i j ⊗ (one ⊘ (two ⊗ area))
    ⊖ get_or grad i nan ⊗ get_or grad j nan ⊗ (one ⊘ (dbl 0x4010_0000_0000_0000 ⊗ area ⊗ area ⊗ area))

-- what a triangle of an area adds, by the places 0, 1, 2 of its edges
unfoldable pub nine_adds : List Float → Float → Float → List ((ℕ × ℕ) × Float)
nine_adds s area deficit = gather (λ i. map (λ j. ((i, j), area_second s area i j ⊗ deficit)) (upto 3)) (upto 3)

-- what a triangle adds; nothing if its area is skipped, which a NaN is not
unfoldable pub first_adds : List Float → Float → List ((ℕ × ℕ) × Float)
first_adds s deficit = cond (lt (abs_area s) area_limit) [] (nine_adds s (abs_area s) deficit)

-- ---- the second term: derivatives of the area, times those of the dihedrals

-- the three vertices that the k-th pair of local vertices leaves
abbrev pub left_by : ℕ → List ℕ
left_by k = keep (λ v. not (among v (get_or local_pairs k []))) (upto 5)

-- the squared lengths 01, 02, 12 of the triangle of three local vertices, by the ten of the pentachoron
abbrev pub lengths_of : List Float → List ℕ → List Float
lengths_of s v = lengths_at s (edge_idx (get_or v 0 0) (get_or v 1 0) ∷ edge_idx (get_or v 0 0) (get_or v 2 0) ∷ edge_idx (get_or v 1 0) (get_or v 2 0) ∷ [])

-- the derivative of its area by the e-th of the ten lengths
unfoldable pub area_slope : List Float → List ℕ → ℕ → Float
area_slope s v e = factor_of (area_sq_of (lengths_of s v)) (abs_area (lengths_of s v)) ⊗ get_or (grad_in_pent s (get_or v 0 0) (get_or v 1 0) (get_or v 2 0)) e nan

-- a row of the e-th edge, by the derivative of an area and those of the k-th dihedral
abbrev pub row_of : Float → List Float → ℕ → ℕ → List ((ℕ × ℕ) × Float)
row_of slope jac k e = map (λ f. ((e, f), slope ⊗ neg (get_or jac (10 * k + f) nan))) (upto 10)

-- the same; nothing if the area's derivative is below the limit, which a NaN is not
unfoldable pub slope_row : Float → List Float → ℕ → ℕ → List ((ℕ × ℕ) × Float)
slope_row slope jac k e = cond (lt (abs_of slope) area_limit) [] (row_of slope jac k e)

-- what the triangle opposite the k-th pair adds in the row of the e-th edge
unfoldable pub row_adds : List Float → List Float → ℕ → ℕ → List ((ℕ × ℕ) × Float)
row_adds s jac k e = slope_row (area_slope s (left_by k) e) jac k e

-- what it adds in all rows; nothing if its area is skipped, which a NaN is not
unfoldable pub triangle_adds : List Float → List Float → ℕ → List ((ℕ × ℕ) × Float)
triangle_adds s jac k = cond (lt (abs_area (lengths_of s (left_by k))) area_limit) [] (gather (row_adds s jac k) (upto 10))

-- what a pentachoron adds, by the places 0 to 9 of its edges
unfoldable pub second_adds : List Float → Float → List ((ℕ × ℕ) × Float)
second_adds s eps = gather (triangle_adds s (jacobian s eps)) (upto 10)
