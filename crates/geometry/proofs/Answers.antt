-- What `cofactor_answer` holds for a row and a column that the matrix has. Assumes nothing.
use Prim.Native.Nat.{ℕ, ◌<◌}
use mathlib.Core.Path.{◌≡◌}
use mathlib.Core.List.{List}
use native.Mathlib.Omega.{arith}
use lib.Ieee.{Float}
use borrow.Author.Tests.{le-ltb}
use Rattle.floats.specs.Algebra.{doubles}
use Rattle.geometry.specs.Determinant.{cofactor}
use Rattle.refusals.specs.Refusals.{value_or}
use Rattle.geometry.specs.Answer.{cofactor_answer}

pub answered : (m : List (List Float)) (row col : ℕ) (other : Float) → row < 6 → col < 6 → value_or (cofactor_answer m row col) other ≡ cofactor doubles m row col
answered m row col other h k = simp (le-ltb 5 row (omega arith), le-ltb 5 col (omega arith))
