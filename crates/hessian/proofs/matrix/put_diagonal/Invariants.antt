-- `hessian::matrix::put_diagonal` meets its contract. Assumes nothing.
use Prim.Native.Nat.{ℕ, ◌+◌, ◌*◌}
use mathlib.Core.List.{List, [], ◌∷◌}
use lib.Ieee.{Float, nan}
use lib.ListN.{length, get_or}
use Rattle.lists.specs.Lists.{gather, upto}
use Rattle.second_derivatives.specs.Matrix.{Scattered}
use Rattle.hessian.specs.Steps.{ahead}
use Rattle.hessian.proofs.matrix.put_diagonal.Given as goal

-- the sum of the i-th free edge at its entry
abbrev pub event : List ℕ → List Float → ℕ → List (ℕ × Float)
event free sums i = (i * length free + i, get_or sums (get_or free i 0) nan) ∷ []

abbrev pub invariant-loop-i : goal.invariant-loop-i
invariant-loop-i l = Scattered ahead (gather (event l.free_edges l.diagonal) (upto l.i)) l.initial.matrix l.matrix
