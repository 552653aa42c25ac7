-- Loops over the matrix: what their turns leave. Assumes nothing.
use Prim.Native.Nat.{ℕ, ◌+◌}
use mathlib.Core.List.{List, []}
use mathlib.Core.Path.{◌≡◌, refl, ◌∙◌}
use lib.Ieee.{Float, nan}
use Rattle.lists.specs.Lists.{gather, upto}
use Rattle.lists.specs.Loops.{scatter}
use Rattle.lists.proofs.Loops.{scatter-turn}
use Rattle.second_derivatives.specs.declared.matrix.SquareMatrix.{SquareMatrix}
use Rattle.second_derivatives.specs.Matrix.{Scattered}

module _ (f : Float → Float → Float) where
  -- nothing is put
  pub scattered-none : (m : SquareMatrix) → Scattered f [] m m
  unfolding scatter
  scattered-none m = record { size = refl; lent = refl; entries = refl }

  -- a loop has not begun
  pub scattered-start : (event : ℕ → List (ℕ × Float)) (m : SquareMatrix) → Scattered f (gather event (upto 0)) m m
  unfolding upto gather
  scattered-start event m = scattered-none m

  -- the events of one number more
  pub scattered-turn : (event : ℕ → List (ℕ × Float)) (k : ℕ) (es : List (ℕ × Float)) (old now new : SquareMatrix) → es ≡ event k
      → Scattered f (gather event (upto k)) old now → Scattered f es now new → Scattered f (gather event (upto (k + 1))) old new
  scattered-turn event k es old now new e was is =
      record {
        size = is.size ∙ was.size;
        lent = is.lent ∙ was.lent;
        entries = scatter-turn nan f event k es old.entries.now now.entries.now new.entries.now e was.entries is.entries;
      }
