-- What addends leave of the matrix. Definitions only.
use Rattle.std.specs.Prelude.{ℕ, List, ◌≡◌, Float}
use Rattle.std.specs.Float.{nan}
use Rattle.lists.specs.Loops.{scatter}
use Rattle.second_derivatives.specs.declared.matrix.SquareMatrix.{SquareMatrix}

-- a matrix after addends at places of its flat list, each put to what the place holds by a rule: it has as many rows as before, and is written to where it was lent
pub record Scattered (f : Float → Float → Float) (events : List (ℕ × Float)) (old new : SquareMatrix) : Type 0 where
  pub size : new.n ≡ old.n
  pub lent : new.entries.ghost_name ≡ old.entries.ghost_name
  pub entries : new.entries.now ≡ scatter nan f events old.entries.now
