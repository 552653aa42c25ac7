-- `lists::numbering::find_row` meets its contract. The loop's invariant: no row from cur on is the row, and the one before cur
-- is in its chain. Assumes nothing.
use Prim.Native.Nat.{◌-◌, ◌≤◌, ◌<◌}
use mathlib.Core.Path.{◌≡◌}
use lib.ListN.{length}
use Rattle.lists.specs.Chains.{hash, chain_at}
use Rattle.lists.specs.Rows.{rows}
use Rattle.lists.proofs.Chains.{NotFrom}
use Rattle.lists.proofs.numbering.find_row.Given as goal

abbrev pub invariant-loop-cur : goal.invariant-loop-cur
invariant-loop-cur l = record {
  known : l.cur ≤ l.n;
  absent : NotFrom (rows (length l.row) l.n l.list) l.row l.cur;
  here : 0 < l.cur → chain_at (rows (length l.row) l.n l.list) (l.cur - 1) ≡ hash l.row;
}

abbrev pub decreases-loop-cur : goal.decreases-loop-cur
decreases-loop-cur l = l.cur
