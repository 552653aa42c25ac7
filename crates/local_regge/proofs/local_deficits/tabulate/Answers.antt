-- `local_regge::local_deficits::tabulate` meets its contract. Assumes nothing.
use native.Mathlib.Omega.{arith}
use lib.ListN.{length}
use Rattle.calls.proofs.BuiltCalls.{measured}
use Rattle.local_regge.proofs.local_deficits.tabulate.Goals as goal

pub tabulate_in-requires-2 : goal.tabulate_in-requires-2
tabulate_in-requires-2 c = let r = c.requires in (r.0, r.1, (measured c.args.built.now (length c.args.sq_lengths.now) r.0).few, omega arith)
