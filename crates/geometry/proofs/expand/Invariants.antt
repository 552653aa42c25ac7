-- `geometry::expand` meets its contract: the sum is that of the columns before. Assumes nothing.
use Rattle.std.proofs.Common.{◌≡◌, ℕ, List, [], get_or, Float}
use Rattle.floats.specs.Algebra.{doubles}
use Rattle.geometry.specs.Determinant.{GivesMinors, expand}
use Rattle.geometry.proofs.expand.Given as goal

abbrev pub invariant-loop-col : goal.invariant-loop-col
invariant-loop-col g l =
    (m : List (List Float)) (f : List (List Float) → Float) (n : ℕ) → get_or m 0 [] ≡ l.row → GivesMinors (goal.D-post g l.fn.minor) f n m g.row.N → l.sum ≡ expand doubles f n m l.col
