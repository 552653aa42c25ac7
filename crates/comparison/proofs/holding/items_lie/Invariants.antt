-- `comparison::holding::items_lie` meets its contract. The loop's invariant: the items so far are such numbers. Assumes nothing.
use mathlib.Core.Path.{◌≡◌}
use lib.ListN.{drop}
use Rattle.comparison.specs.CheckParts.{lying}
use Rattle.lists.specs.Lent.{rows_of}
use Rattle.comparison.proofs.holding.items_lie.Given as goal

abbrev pub invariant-loop-item : goal.invariant-loop-item
invariant-loop-item l = lying (rows_of l.rows) l.key 0 l.items ≡ lying (rows_of l.rows) l.key l.low (drop l.item-index l.items)
