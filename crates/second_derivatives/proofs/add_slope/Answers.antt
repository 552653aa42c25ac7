-- `second_derivatives::add_slope` meets its contract. Assumes nothing.
use native.Mathlib.Omega.{arith}
use Rattle.floats.specs.Ops.{◌⊕◌}
use Rattle.lists.specs.Lists.{gather}
use Rattle.second_derivatives.specs.SecondDerivatives.{slope_row}
use Rattle.second_derivatives.specs.Parts.{placed}
use Rattle.second_derivatives.proofs.Placing.{row_absent}
use Rattle.second_derivatives.proofs.Scattering.{scattered-none}
use Rattle.second_derivatives.proofs.add_slope.Goals as goal

pub returns-then-pair-e : goal.returns-then-pair-e
returns-then-pair-e c =
    let a = c.args in
    rw (row_absent a.matrix.now.n a.pair.now.at.now a.slope a.pair.now.jacobian.now a.pair.now.k a.e (omega (arith, c.if-pair-e.true))) (scattered-none ◌⊕◌ a.matrix.now)

pub returns-then-abs : goal.returns-then-abs
unfolding slope_row placed gather
returns-then-abs c = rw (← c.abs.ensures, c.if-abs.true) (scattered-none ◌⊕◌ c.args.matrix.now)

pub returns : goal.returns
unfolding slope_row
returns c = rw (← c.abs.ensures, c.if-abs.false) c.add_row.ensures
