-- `comparison::holding::items_lie` meets its contract. Assumes nothing.
use mathlib.Core.Path.{refl, sym, ◌∙◌}
use native.Mathlib.Omega.{arith}
use lib.ListN.{get_or, drop_of_length-le}
use borrow.Author.Tests.{lt-leb, le-leb, lt-ltb, le-ltb}
use Rattle.lists.proofs.Rows.{length-rows}
use Rattle.comparison.specs.CheckParts.{lying}
use Rattle.lists.specs.Lent.{rows_of}
use Rattle.comparison.proofs.Holdings.{lying-turn}
use Rattle.comparison.proofs.holding.items_lie.Goals as goal
use Rattle.comparison.proofs.holding.items_lie.Goals.{then-item-low-via-then-item-low, then-item-low-via-else-item-low+then-rows-item, then-item-low-via-else-item-low+else-rows-item+then-not-lies_in}

pub returns-then-item-low : goal.returns-then-item-low
returns-then-item-low c =
    let a = c.args in
    let r = a.rows.now in
    let l = c.loop-item in
    let i = get_or a.items.now l.item-index 0 in
    let turn = lying-turn (rows_of r) a.key.now l.low a.items.now l.item-index (omega arith) in
    let many = length-rows r.width r.count r.list.now in
    elim c.then-item-low.branch [
      | then-item-low-via-then-item-low w ↦ sym (l.invariant ∙ turn ∙ rw (lt-leb l.low i w.if-item-low.true) refl)
      | then-item-low-via-else-item-low+then-rows-item w ↦ sym (l.invariant ∙ turn ∙ rw (le-leb l.low i w.if-item-low.false, many, le-ltb i r.count w.if-rows-item.true) refl)
      | then-item-low-via-else-item-low+else-rows-item+then-not-lies_in w ↦
          sym (l.invariant ∙ turn ∙ rw (le-leb l.low i w.if-item-low.false, many, lt-ltb i r.count w.if-rows-item.false, ← w.row.ensures, sym w.lies_in.ensures ∙ w.if-not-lies_in.true) refl)
    ]

pub loop-item-preserved : goal.loop-item-preserved
loop-item-preserved c =
    let a = c.args in
    let r = a.rows.now in
    let l = c.loop-item in
    let i = get_or a.items.now l.item-index 0 in
    let turn = lying-turn (rows_of r) a.key.now l.low a.items.now l.item-index (omega arith) in
    let many = length-rows r.width r.count r.list.now in
    l.invariant ∙ turn ∙ rw (le-leb l.low i c.if-item-low.false, many, lt-ltb i r.count c.if-rows-item.false, ← c.row.ensures, sym c.lies_in.ensures ∙ c.if-not-lies_in.false) refl

pub returns : goal.returns
unfolding lying
returns c =
    let l = c.loop-item in
    sym (l.invariant ∙ rw (drop_of_length-le c.args.items.now {i = l.item-index} (omega arith)) refl)
