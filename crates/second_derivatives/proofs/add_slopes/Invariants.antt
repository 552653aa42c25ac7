-- `second_derivatives::add_slopes` meets its contract. Assumes nothing.
use Prim.Native.Nat.{ℕ}
use mathlib.Core.List.{List}
use lib.Ieee.{Float, nan}
use lib.ListN.{get_or}
use Rattle.floats.specs.Ops.{◌⊕◌, ◌⊗◌}
use Rattle.lists.specs.Lists.{gather, upto}
use Rattle.second_derivatives.specs.SecondDerivatives.{slope_row}
use Rattle.second_derivatives.specs.Parts.{placed}
use Rattle.second_derivatives.specs.Matrix.{Scattered}
use Rattle.second_derivatives.proofs.add_slopes.Given as goal

-- what goes to the row of the e-th edge
abbrev pub event : ℕ → List ℕ → List Float → ℕ → Float → List Float → ℕ → List (ℕ × Float)
event n at jac k factor grad e = placed n at (slope_row (factor ⊗ get_or grad e nan) jac k e)

abbrev pub invariant-loop-e : goal.invariant-loop-e
invariant-loop-e l =
    Scattered ◌⊕◌ (gather (event l.initial.matrix.n l.pair.at.now l.pair.jacobian.now l.pair.k l.factor l.grad) (upto l.e)) l.initial.matrix l.matrix
