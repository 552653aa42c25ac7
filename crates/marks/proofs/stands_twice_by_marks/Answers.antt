-- `marks::stands_twice_by_marks` meets its contract. Assumes nothing.
use Prim.Native.Nat.{suc}
use mathlib.Core.Bool.{true}
use mathlib.Core.Path.{sym, ap, ◌∙◌}
use native.Mathlib.Numerals.{add-one}
use lib.ListN.{get_or, set, take, drop, length-set}
use lib.Seq.{take-suc, split_at}
use Rattle.complex.specs.Builder.{repeats}
use Rattle.marks.proofs.Marking.{mark-found, mark-missing, marked_next, stands-again, stands-once}
use Rattle.marks.proofs.stands_twice_by_marks.Goals as goal

pub returns-then-mark : goal.returns-then-mark
returns-then-mark c =
    let xs = c.args.numbers.now in
    let l = c.loop-number in
    let k = l.number-index in
    let h = c.loop-number-test.true in
    sym (ap repeats (split_at xs k 0 h) ∙ stands-again (take k xs) (drop (suc k) xs) (get_or xs k 0) (mark-found 81920 l.marks (take k xs) (get_or xs k 0) (c.requires k h) l.invariant.1 c.if-mark.true))

pub loop-number-preserved : goal.loop-number-preserved
loop-number-preserved c =
    let xs = c.args.numbers.now in
    let l = c.loop-number in
    let k = l.number-index in
    let h = c.loop-number-test.true in (
      length-set l.marks (get_or xs k 0) true ∙ l.invariant.0,
      ap (λ ms. set ms (get_or xs k 0) true) l.invariant.1 ∙ sym (marked_next xs _ k h),
      ap repeats (ap (λ n. take n xs) (add-one k) ∙ take-suc xs k 0 h) ∙ stands-once (take k xs) (get_or xs k 0) l.invariant.2 (mark-missing 81920 l.marks (take k xs) (get_or xs k 0) (c.requires k h) l.invariant.1 c.if-mark.false),
    )
