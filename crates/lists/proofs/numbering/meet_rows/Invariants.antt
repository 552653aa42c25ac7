-- `lists::numbering::meet_rows` meets its contract. The loop's invariant: the first q rows are met. Assumes nothing.
use Rattle.lists.specs.Chains.{Met}
use Rattle.lists.specs.Rows.{rows}
use Rattle.lists.proofs.numbering.meet_rows.Given as goal

abbrev pub invariant-loop-q : goal.invariant-loop-q
invariant-loop-q l = Met l.given.width l.initial.list l.list l.head l.next l.initial.numbers l.numbers l.n l.at (rows l.given.width l.q l.given.list.now) l.m
