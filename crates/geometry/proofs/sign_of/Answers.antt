-- `geometry::sign_of` meets its contract. Assumes nothing.
use borrow.Author.Tests.{eq-eqb, ne_eqb}
use Rattle.geometry.specs.Determinant.{sign}
use Rattle.geometry.proofs.sign_of.Goals as goal

pub returns-then-row-col-eq0 : goal.returns-then-row-col-eq0
unfolding sign
returns-then-row-col-eq0 c = simp (eq-eqb _ _ c.if-row-col-eq0.true)

pub returns-else-row-col-eq0 : goal.returns-else-row-col-eq0
unfolding sign
returns-else-row-col-eq0 c = simp (ne_eqb _ _ c.if-row-col-eq0.false)
