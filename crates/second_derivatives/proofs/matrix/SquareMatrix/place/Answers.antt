-- `second_derivatives::matrix::SquareMatrix::place` meets its contract. Assumes nothing.
use mathlib.Core.Path.{refl}
use native.Mathlib.Omega.{arith}
use Rattle.lists.proofs.Tests.{ltb-says, passes, fails, both-says}
use Rattle.second_derivatives.specs.Parts.{place_of}
use Rattle.second_derivatives.proofs.matrix.SquareMatrix.place.Goals as goal
use Rattle.second_derivatives.proofs.matrix.SquareMatrix.place.Goals.{else-row-n-via-then-row-n+else-col-n, else-row-n-via-else-row-n}

pub returns-then-col-n-clause-value : goal.returns-then-col-n-clause-value
unfolding place_of
returns-then-col-n-clause-value c =
    let n = c.args.self.now.n in
    rw (passes (both-says (ltb-says c.args.row n) (ltb-says c.args.col n)) (c.if-row-n.true, c.if-col-n.true)) refl

pub returns-else-row-n-clause-value : goal.returns-else-row-n-clause-value
unfolding place_of
returns-else-row-n-clause-value c =
    let n = c.args.self.now.n in
    let both = both-says (ltb-says c.args.row n) (ltb-says c.args.col n) in
    elim c.else-row-n.branch [
      | else-row-n-via-then-row-n+else-col-n w ↦ rw (fails both (λ h. omega (arith, h.1, w.if-col-n.false))) refl
      | else-row-n-via-else-row-n w ↦ rw (fails both (λ h. omega (arith, h.0, w.if-row-n.false))) refl
    ]
