-- `foliation::hypercubic::write_paths` meets its contract. Assumes nothing.
use Prim.Native.Nat.{◌*◌, ◌≤◌}
use mathlib.Core.Path.{◌≡◌}
use mathlib.Core.List.{◌++◌}
use lib.ListN.{length, drop}
use Rattle.lists.specs.Rows.{flat}
use Rattle.foliation.proofs.Listings.{paths_to}
use Rattle.foliation.proofs.hypercubic.write_paths.Given as goal

abbrev pub invariant-loop-k : goal.invariant-loop-k
invariant-loop-k l = (l.k ≤ l.count) × (length l.given ≡ length l.initial.given) × (l.given ≡ flat (paths_to l.lawful.lattice l.k) ++ drop (5 * l.k) l.initial.given)
