-- `hessian::matrix::put_diagonal` meets its contract. Assumes nothing.
use Prim.Native.Nat.{ℕ, ◌+◌, ◌*◌}
use mathlib.Core.Path.{◌≡◌, refl}
use native.Mathlib.Omega.{arith}
use lib.Ieee.{Float, nan}
use lib.ListN.{length, get_or}
use Rattle.lists.specs.Lists.{upto}
use Rattle.lists.specs.Loops.{scatter}
use Rattle.second_derivatives.proofs.Scattering.{scattered-start, scattered-turn}
use Rattle.hessian.specs.Steps.{ahead, diagonal_events}
use Rattle.hessian.proofs.HessianLoops.{gather-ones}
use Rattle.hessian.proofs.matrix.put_diagonal.Invariants.{event}
use Rattle.hessian.proofs.matrix.put_diagonal.Goals as goal

pub loop-i-init : goal.loop-i-init
loop-i-init c = scattered-start ahead _ _

pub loop-i-preserved : goal.loop-i-preserved
unfolding scatter
loop-i-preserved c =
    let a = c.args in
    let l = c.loop-i in
    let e = event a.free_edges.now a.diagonal.now in
    scattered-turn ahead e l.i (e l.i) a.matrix.now l.matrix _ refl l.invariant (record { size = refl; lent = refl; entries = refl })

pub returns : goal.returns
unfolding diagonal_events
returns c =
    let l = c.loop-i in
    let free = c.args.free_edges.now in
    let e : l.i ≡ length free = omega arith in
    rw (← gather-ones {B = ℕ × Float} (λ i. (i * length free + i, get_or c.args.diagonal.now (get_or free i 0) nan)) (upto (length free))) (rw e at l.invariant)
