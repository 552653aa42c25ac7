-- `second_derivatives::area_second` meets its contract. Assumes nothing.
use mathlib.Core.Bool.{cond}
use mathlib.Core.Path.{◌≡◌, refl}
use lib.Dec.{eqb}
use lib.Ieee.{neg, le}
use Rattle.floats.specs.Ops.{zero, one}
use Rattle.lists.proofs.Tests.{eqb-says, passes, fails}
use Rattle.hinges.specs.Action.{area_sq_of}
use Rattle.second_derivatives.specs.SecondDerivatives.{area_second}
use Rattle.second_derivatives.proofs.area_second.Goals as goal
use Rattle.second_derivatives.proofs.area_second.Goals.{then-triangle_area_sq_lorentzian, else-triangle_area_sq_lorentzian, then-i-j, else-i-j}

pub returns : goal.returns
unfolding area_second
returns c =
    let a = c.args in
    let sign : c.if-triangle_area_sq_lorentzian.sign ≡ cond (le zero (area_sq_of a.s)) one (neg one) =
    elim c.if-triangle_area_sq_lorentzian.branch [
      | then-triangle_area_sq_lorentzian w ↦ rw (w.sign-is, ← c.triangle_area_sq_lorentzian.ensures, w.if-triangle_area_sq_lorentzian.true) refl
      | else-triangle_area_sq_lorentzian w ↦ rw (w.sign-is, ← c.triangle_area_sq_lorentzian.ensures, w.if-triangle_area_sq_lorentzian.false) refl
    ] in
    let square : c.if-i-j.square ≡ cond (eqb a.i a.j) (neg one) one =
    elim c.if-i-j.branch [
      | then-i-j w ↦ rw (w.square-is, passes (eqb-says a.i a.j) w.if-i-j.true) refl
      | else-i-j w ↦ rw (w.square-is, fails (eqb-says a.i a.j) w.if-i-j.false) refl
    ] in
    rw (sign, square, c.triangle_area_sq_grad-grad.ensures) refl
