-- `second_derivatives::add_slopes` meets its contract. Assumes nothing.
use mathlib.Core.Path.{◌≡◌, refl}
use native.Mathlib.Omega.{arith}
use lib.Ieee.{nan}
use lib.ListN.{get_or}
use Rattle.floats.specs.Ops.{◌⊕◌, ◌⊗◌}
use Rattle.lists.specs.Lists.{upto}
use Rattle.second_derivatives.specs.SecondDerivatives.{slope_row}
use Rattle.second_derivatives.specs.Parts.{slope_rows}
use Rattle.second_derivatives.proofs.Placing.{placed-gather}
use Rattle.second_derivatives.proofs.Scattering.{scattered-start, scattered-turn}
use Rattle.second_derivatives.proofs.add_slopes.Invariants.{event}
use Rattle.second_derivatives.proofs.add_slopes.Goals as goal

pub loop-e-init : goal.loop-e-init
loop-e-init c = scattered-start ◌⊕◌ _ _

pub loop-e-preserved : goal.loop-e-preserved
loop-e-preserved c =
    let a = c.args in
    let l = c.loop-e in
    scattered-turn ◌⊕◌ (event a.matrix.now.n a.pair.now.at.now a.pair.now.jacobian.now a.pair.now.k a.factor a.grad.now) l.e _ a.matrix.now l.matrix _ (rw l.invariant.size refl) l.invariant c.add_slope.ensures

pub returns : goal.returns
unfolding slope_rows
returns c =
    let a = c.args in
    let l = c.loop-e in
    let e : l.e ≡ 10 = omega arith in
    rw (placed-gather a.matrix.now.n a.pair.now.at.now (λ e. slope_row (a.factor ⊗ get_or a.grad.now e nan) a.pair.now.jacobian.now a.pair.now.k e) (upto 10)) (rw e at l.invariant)
