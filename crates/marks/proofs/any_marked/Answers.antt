-- `marks::any_marked` meets its contract. Assumes nothing.
use mathlib.Core.Bool.{false, ◌||◌}
use mathlib.Core.Path.{sym, ap, ◌∙◌}
use lib.ListN.{get_or}
use Rattle.std.proofs.lemmas.List.Folds.{list_any_more}
use Rattle.marks.proofs.any_marked.Goals as goal

pub loop-mark-preserved : goal.loop-mark-preserved
loop-mark-preserved c =
    let l = c.loop-mark in
    ap (λ b. b || get_or c.args.marks.now l.mark-index false) l.invariant ∙ sym (list_any_more (λ mark. mark) c.args.marks.now l.mark-index false c.loop-mark-test.true)
