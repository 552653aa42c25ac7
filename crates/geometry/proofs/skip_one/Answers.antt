-- `geometry::skip_one` meets its contract. Assumes nothing.
use native.Mathlib.Omega.{arith}
use borrow.Author.Tests.{lt-ltb, le-ltb}
use Rattle.geometry.specs.Determinant.{skip}
use Rattle.geometry.proofs.skip_one.Goals as goal

pub returns-then-i-r : goal.returns-then-i-r
unfolding skip
returns-then-i-r c = (simp (lt-ltb _ _ c.if-i-r.true), omega arith)

pub returns-else-i-r : goal.returns-else-i-r
unfolding skip
returns-else-i-r c = (simp (le-ltb _ _ c.if-i-r.false), omega arith)
