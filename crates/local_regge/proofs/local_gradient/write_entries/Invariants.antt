-- `local_regge::local_gradient::write_entries` meets its contract. Assumes nothing.
use mathlib.Core.List.{◌++◌, map}
use mathlib.Core.Path.{◌≡◌}
use lib.Ieee.{nan}
use lib.ListN.{get_or, take, drop}
use Rattle.local_regge.proofs.local_gradient.write_entries.Given as goal

abbrev pub invariant-loop-k : goal.invariant-loop-k
invariant-loop-k l = l.grad ≡ map (λ e. get_or l.entries e nan) (take l.k l.free_edges) ++ drop l.k l.initial.grad
