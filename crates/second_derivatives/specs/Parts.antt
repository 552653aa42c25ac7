-- Where what is added stands in the matrix: places of free edges, rows, the diagonal and what is off it. Definitions only.
use Rattle.std.specs.Prelude.{ℕ, zero, suc, ◌+◌, ◌*◌, not, cond, ◌&&◌, List, [], ◌∷◌, map, eqb, ltb, Float, get_or, Option, Some, None}
use Rattle.std.specs.Float.{nan}
use Rattle.floats.specs.Ops as Ops
use Rattle.floats.specs.Ops.{◌⊕◌, ◌⊗◌}
use Rattle.lists.specs.Lists.{keep, gather, upto}
use Rattle.second_derivatives.specs.SecondDerivatives.{slope_row}

-- ---- places

-- where a number first stands, and how many there are where it does not
unfoldable pub index_of : ℕ → List ℕ → ℕ
index_of e [] = zero
index_of e (x ∷ xs) = let r = index_of e xs in cond (eqb x e) zero (suc r)

-- where each of these edges stands among the free ones
abbrev pub places_in : List ℕ → List ℕ → List ℕ
places_in free es = map (λ e. index_of e free) es

-- where row i and column j of n rows of n stand, one row after the other; none if there is no such row or column
unfoldable pub place_of : ℕ → ℕ → ℕ → Option ℕ
place_of n i j = cond (ltb i n && ltb j n) (Some (i * n + j)) None

-- a value in row i and column j of n rows of n, one after the other; nothing if there is no such row or column
unfoldable pub placed_in : ℕ → ℕ → ℕ → Float → List (ℕ × Float)
placed_in n i j x = cond (ltb i n && ltb j n) ((i * n + j, x) ∷ []) []

-- addends whose places are rows and columns by a list
unfoldable pub placed : ℕ → List ℕ → List ((ℕ × ℕ) × Float) → List (ℕ × Float)
placed n at adds = gather (λ a. placed_in n (get_or at a.0.0 0) (get_or at a.0.1 0) a.1) adds

-- ---- rows

-- the rows of all ten edges, by an area's factor and the derivatives of its square
unfoldable pub slope_rows : Float → List Float → List Float → ℕ → List ((ℕ × ℕ) × Float)
slope_rows factor grad jac k = gather (λ e. slope_row (factor ⊗ get_or grad e nan) jac k e) (upto 10)

-- ---- the first term, on the diagonal and off it

-- the addends on the diagonal, by the numbers of edges
unfoldable pub on_diagonal : List ℕ → List ((ℕ × ℕ) × Float) → List (ℕ × Float)
on_diagonal es adds = map (λ a. (get_or es a.0.0 0, a.1)) (keep (λ a. eqb a.0.0 a.0.1) adds)

-- the others
unfoldable pub off_diagonal : List ((ℕ × ℕ) × Float) → List ((ℕ × ℕ) × Float)
off_diagonal adds = keep (λ a. not (eqb a.0.0 a.0.1)) adds

-- an addend of the first term before what an entry holds
abbrev pub before : Float → Float → Float
before h x = (Ops.zero ⊕ x) ⊕ h
