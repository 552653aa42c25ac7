-- `second_derivatives::put_others` meets its contract. Assumes nothing.
use mathlib.Core.Path.{◌≡◌, refl}
use native.Mathlib.Omega.{arith}
use Rattle.lists.specs.Lists.{keep, gather, upto}
use Rattle.second_derivatives.specs.SecondDerivatives.{nine_adds}
use Rattle.second_derivatives.specs.Parts.{placed, off_diagonal, before}
use Rattle.second_derivatives.proofs.Scattering.{scattered-start, scattered-turn}
use Rattle.second_derivatives.proofs.put_others.Invariants.{event}
use Rattle.second_derivatives.proofs.put_others.Goals as goal

pub loop-i-init : goal.loop-i-init
loop-i-init c = scattered-start before _ _

pub loop-i-preserved : goal.loop-i-preserved
loop-i-preserved c =
    let a = c.args in
    let l = c.loop-i in
    scattered-turn before (event a.matrix.now.n a.at a.s a.area a.deficit) l.i-index _ a.matrix.now l.matrix _ (rw (l.invariant.size, c.area_second.ensures) refl) l.invariant c.put_before.ensures

pub returns : goal.returns
unfolding placed off_diagonal nine_adds keep gather upto
returns c =
    let l = c.loop-i in
    let e : l.i-index ≡ 6 = omega (arith, c.loop-i-test.false, l.auto.i-index-end) in
    rw e at l.invariant
