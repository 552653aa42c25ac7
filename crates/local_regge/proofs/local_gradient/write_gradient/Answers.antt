-- `local_regge::local_gradient::write_gradient` meets its contract. Assumes nothing.
use native.Mathlib.Omega.{arith}
use lib.ListN.{length}
use Rattle.calls.proofs.BuiltCalls.{measured, few-edges}
use Rattle.local_regge.proofs.local_gradient.write_gradient.Goals as goal

pub write_gradient_in-requires-2 : goal.write_gradient_in-requires-2
write_gradient_in-requires-2 c =
    let r = c.requires in
    let b = c.args.built.now in
    (r.0, r.1, (measured b (length c.args.sq_lengths.now) r.0).few, omega arith, few-edges b, omega arith, r.2)
