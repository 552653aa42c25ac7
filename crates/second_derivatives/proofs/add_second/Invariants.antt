-- `second_derivatives::add_second` meets its contract. Assumes nothing.
use Prim.Native.Nat.{ℕ}
use mathlib.Core.List.{List}
use lib.Ieee.{Float}
use Rattle.floats.specs.Ops.{◌⊕◌}
use Rattle.lists.specs.Lists.{gather, upto}
use Rattle.second_derivatives.specs.SecondDerivatives.{triangle_adds}
use Rattle.second_derivatives.specs.Parts.{placed}
use Rattle.second_derivatives.specs.Matrix.{Scattered}
use Rattle.second_derivatives.proofs.add_second.Given as goal

-- what goes to the triangle opposite the k-th pair
abbrev pub event : ℕ → List ℕ → List Float → List Float → ℕ → List (ℕ × Float)
event n at s jac k = placed n at (triangle_adds s jac k)

abbrev pub invariant-loop-k : goal.invariant-loop-k
invariant-loop-k l =
    Scattered ◌⊕◌ (gather (event l.initial.matrix.n l.at l.s l.jacobian) (upto l.k)) l.initial.matrix l.matrix
