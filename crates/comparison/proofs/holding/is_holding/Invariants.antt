-- `comparison::holding::is_holding` meets its contract. The loop's invariant: the parts so far lie. Assumes nothing.
use Prim.Native.Nat.{ℕ, ◌<◌}
use mathlib.Core.Path.{◌≡◌}
use mathlib.Core.Bool.{true}
use mathlib.Core.List.{[]}
use lib.ListN.{get_or}
use Rattle.comparison.specs.CheckParts.{part_lies}
use Rattle.lists.specs.Lent.{rows_of}
use Rattle.comparison.proofs.holding.is_holding.Given as goal

abbrev pub invariant-loop-j : goal.invariant-loop-j
invariant-loop-j l = (i : ℕ) → i < l.j → part_lies (rows_of l.rows) (get_or (rows_of l.keys) i []) l.adjacency.items.now l.adjacency.starts.now i ≡ true
