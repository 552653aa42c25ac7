-- `lists::matching::match_rows` meets its contract. The loop's invariant: the list has the first q rows. Assumes nothing.
use Prim.Native.Nat.{◌≤◌}
use Rattle.lists.specs.Chains.{Met}
use Rattle.lists.specs.Rows.{rows}
use Rattle.lists.proofs.matching.match_rows.Given as goal

abbrev pub invariant-loop-q : goal.invariant-loop-q
invariant-loop-q l = record {
  met : Met l.given.width l.list l.list l.head l.next l.initial.numbers l.numbers l.n l.at (rows l.given.width l.q l.given.list.now) l.m;
  few : l.m ≤ l.most;
}
