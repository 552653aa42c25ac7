-- The local Hessian of the action: what triangles and pentachorons add to it, and its entries. Definitions only.
-- An addend is a row, a column and a value.
use Rattle.std.specs.Prelude.{ℕ, cond, ◌&&◌, eqb, Float, length, get_or}
use mathlib.Core.List.{List, [], ◌∷◌, map, foldl}
use Rattle.floats.specs.Ops.{◌⊕◌, zero}
use Rattle.lists.specs.Lists.{gather, upto}
use Rattle.complex.specs.Complex.{row_numbers}
use Rattle.hinges.specs.Hinges.{FaceLists, pent_lengths, hinges, hinge_in}
use Rattle.hinges.specs.Action.{edges_at, tri_lengths}
use Rattle.second_derivatives.specs.SecondDerivatives.{first_adds, second_adds}

-- addends by the numbers of edges, in place of their places among `es`
abbrev pub named : List ℕ → List ((ℕ × ℕ) × Float) → List ((ℕ × ℕ) × Float)
named es adds = map (λ a. ((get_or es a.0.0 0, get_or es a.0.1 0), a.1)) adds

-- the values in row e and column f, in their order
unfoldable pub adds_at : ℕ → ℕ → List ((ℕ × ℕ) × Float) → List Float
adds_at e f [] = []
adds_at e f (a ∷ adds) = let r = adds_at e f adds in cond (eqb a.0.0 e && eqb a.0.1 f) (a.1 ∷ r) r

-- what triangle t adds
unfoldable pub first_of : FaceLists → List Float → ℕ → List ((ℕ × ℕ) × Float)
first_of F ls t = named (edges_at F t) (first_adds (tri_lengths F ls t) (hinge_in (hinges F ls) t).deficit)

-- what pentachoron i adds
unfoldable pub second_of : FaceLists → List Float → Float → ℕ → List ((ℕ × ℕ) × Float)
second_of F ls eps i = let p = get_or F.pents i [] in named (row_numbers F.edges 2 p) (second_adds (pent_lengths F ls p) eps)

-- the sum over all triangles
unfoldable pub first_term : FaceLists → List Float → ℕ → ℕ → Float
first_term F ls e f = foldl ◌⊕◌ zero (adds_at e f (gather (first_of F ls) (upto (length F.triangles))))

-- the sum over all pentachorons
unfoldable pub second_term : FaceLists → List Float → Float → ℕ → ℕ → Float
second_term F ls eps e f = foldl ◌⊕◌ zero (adds_at e f (gather (second_of F ls eps) (upto (length F.pents))))

-- the entry in the row of edge e and the column of edge f
unfoldable pub entry : FaceLists → List Float → Float → ℕ → ℕ → Float
entry F ls eps e f = first_term F ls e f ⊕ second_term F ls eps e f

-- `local_lorentzian_regge_hessian`: a row for each free edge, one after the other
unfoldable pub local_hessian : FaceLists → List Float → List ℕ → Float → List Float
local_hessian F ls free eps = gather (λ e. map (entry F ls eps e) free) free
