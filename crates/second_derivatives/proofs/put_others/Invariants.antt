-- `second_derivatives::put_others` meets its contract. Assumes nothing.
use Prim.Native.Nat.{ℕ}
use mathlib.Core.List.{List, [], ◌∷◌}
use lib.Ieee.{Float}
use lib.ListN.{get_or}
use Rattle.floats.specs.Ops.{◌⊗◌}
use Rattle.lists.specs.Lists.{gather, upto}
use Rattle.second_derivatives.specs.SecondDerivatives.{area_second}
use Rattle.second_derivatives.specs.Parts.{placed_in, before}
use Rattle.second_derivatives.specs.Matrix.{Scattered}
use Rattle.second_derivatives.proofs.put_others.Given as goal

-- the pairs of different edges
abbrev pub others : List (ℕ × ℕ)
others = (0, 1) ∷ (0, 2) ∷ (1, 0) ∷ (1, 2) ∷ (2, 0) ∷ (2, 1) ∷ []

-- what goes to the row and the column of the k-th pair
abbrev pub event : ℕ → List ℕ → List Float → Float → Float → ℕ → List (ℕ × Float)
event n at s area deficit k =
    let p = get_or others k (0, 0) in
    placed_in n (get_or at p.0 0) (get_or at p.1 0) (area_second s area p.0 p.1 ⊗ deficit)

abbrev pub invariant-loop-i : goal.invariant-loop-i
invariant-loop-i l =
    Scattered before (gather (event l.initial.matrix.n l.at l.s l.area l.deficit) (upto l.i-index)) l.initial.matrix l.matrix
