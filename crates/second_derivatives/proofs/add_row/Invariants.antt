-- `second_derivatives::add_row` meets its contract. Assumes nothing.
use Prim.Native.Nat.{ℕ, ◌+◌, ◌*◌}
use mathlib.Core.List.{List}
use lib.Ieee.{Float, nan, neg}
use lib.ListN.{get_or}
use Rattle.floats.specs.Ops.{◌⊕◌, ◌⊗◌}
use Rattle.lists.specs.Lists.{gather, upto}
use Rattle.second_derivatives.specs.Parts.{placed_in}
use Rattle.second_derivatives.specs.Matrix.{Scattered}
use Rattle.second_derivatives.proofs.add_row.Given as goal

-- what goes to the f-th place of the row
abbrev pub event : ℕ → List ℕ → List Float → ℕ → ℕ → Float → ℕ → List (ℕ × Float)
event n at jac k e slope f = placed_in n (get_or at e 0) (get_or at f 0) (slope ⊗ neg (get_or jac (10 * k + f) nan))

abbrev pub invariant-loop-f : goal.invariant-loop-f
invariant-loop-f l =
    Scattered ◌⊕◌ (gather (event l.initial.matrix.n l.pair.at.now l.pair.jacobian.now l.pair.k l.e l.slope) (upto l.f)) l.initial.matrix l.matrix
