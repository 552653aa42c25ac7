-- `marks::mark_all` meets its contract. Assumes nothing.
use mathlib.Core.Bool.{true}
use mathlib.Core.Path.{sym, ap, ◌∙◌}
use lib.ListN.{get_or, set}
use Rattle.marks.proofs.Marking.{marked_next}
use Rattle.marks.proofs.mark_all.Goals as goal

pub loop-number-preserved : goal.loop-number-preserved
loop-number-preserved c =
    let xs = c.args.numbers.now in
    let l = c.loop-number in
    ap (λ ms. set ms (get_or xs l.number-index 0) true) l.invariant ∙ sym (marked_next xs _ l.number-index c.loop-number-test.true)
