-- `retouch::rework` meets its contract. Assumes nothing.
use native.Mathlib.Omega.{arith}
use lib.ListN.{length}
use Rattle.calls.proofs.BuiltCalls.{measured}
use Rattle.retouch.proofs.rework.Goals as goal

pub rework_in-requires-2 : goal.rework_in-requires-2
rework_in-requires-2 c = let r = c.requires in (r.0, r.1, (measured c.args.built.now (length c.args.sq_lengths.now) r.0).few, omega arith, r.2, r.3)
