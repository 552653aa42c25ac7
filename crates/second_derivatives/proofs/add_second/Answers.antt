-- `second_derivatives::add_second` meets its contract. Assumes nothing.
use mathlib.Core.Path.{◌≡◌, refl}
use native.Mathlib.Omega.{arith}
use Rattle.floats.specs.Ops.{◌⊕◌}
use Rattle.lists.specs.Lists.{upto}
use Rattle.second_derivatives.specs.SecondDerivatives.{triangle_adds, second_adds}
use Rattle.second_derivatives.proofs.Placing.{placed-gather}
use Rattle.second_derivatives.proofs.Scattering.{scattered-start, scattered-turn}
use Rattle.second_derivatives.proofs.add_second.Invariants.{event}
use Rattle.second_derivatives.proofs.add_second.Goals as goal

pub loop-k-init : goal.loop-k-init
loop-k-init c = scattered-start ◌⊕◌ _ _

pub loop-k-preserved : goal.loop-k-preserved
loop-k-preserved c =
    let a = c.args in
    let l = c.loop-k in
    scattered-turn ◌⊕◌ (event a.matrix.now.n a.at.now a.s.now c.all_lorentzian_dihedrals_jacobian-jacobian.result) l.k _ a.matrix.now l.matrix _ (rw l.invariant.size refl) l.invariant c.add_opposite.ensures

pub returns : goal.returns
unfolding second_adds
returns c =
    let a = c.args in
    let l = c.loop-k in
    let j = c.all_lorentzian_dihedrals_jacobian-jacobian in
    let e : l.k ≡ 10 = omega (arith, c.loop-k-test.false, l.auto.k-end) in
    rw (← j.ensures, placed-gather a.matrix.now.n a.at.now (triangle_adds a.s.now j.result) (upto 10)) (rw e at l.invariant)
