-- `second_derivatives::add_row` meets its contract. Assumes nothing.
use Prim.Native.Nat.{◌+◌, ◌*◌}
use mathlib.Core.Path.{◌≡◌, refl}
use native.Mathlib.Omega.{arith}
use lib.Ieee.{nan, neg}
use lib.ListN.{get_or}
use Rattle.floats.specs.Ops.{◌⊕◌, ◌⊗◌}
use Rattle.lists.specs.Lists.{upto}
use Rattle.second_derivatives.proofs.Placing.{placed-map}
use Rattle.second_derivatives.proofs.Scattering.{scattered-start, scattered-turn}
use Rattle.second_derivatives.proofs.add_row.Invariants.{event}
use Rattle.second_derivatives.proofs.add_row.Goals as goal

pub loop-f-init : goal.loop-f-init
loop-f-init c = scattered-start ◌⊕◌ _ _

pub loop-f-preserved : goal.loop-f-preserved
loop-f-preserved c =
    let a = c.args in
    let l = c.loop-f in
    scattered-turn ◌⊕◌ (event a.matrix.now.n a.pair.now.at.now a.pair.now.jacobian.now a.pair.now.k a.e a.slope) l.f _ a.matrix.now l.matrix _ (rw l.invariant.size refl) l.invariant c.add.ensures

pub returns : goal.returns
returns c =
    let a = c.args in
    let l = c.loop-f in
    let e : l.f ≡ 10 = omega arith in
    rw (placed-map a.matrix.now.n a.pair.now.at.now (λ f. ((a.e, f), a.slope ⊗ neg (get_or a.pair.now.jacobian.now (10 * a.pair.now.k + f) nan))) (upto 10)) (rw e at l.invariant)
