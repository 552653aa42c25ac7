-- `marks::mark_met` meets its contract. Assumes nothing.
use mathlib.Core.List.{[]}
use mathlib.Core.Path.{sym, ap, ◌∙◌}
use native.Mathlib.Omega.{arith}
use lib.ListN.{length, get_or, take}
use Rattle.marks.specs.Marks.{met, marked}
use Rattle.marks.proofs.Marking.{marked_append, met_next, holding-below}
use Rattle.marks.proofs.mark_met.Goals as goal

pub mark_all-requires : goal.mark_all-requires
mark_all-requires c =
    let r = c.requires in
    let l = c.loop-edge in
    let ok = r.2 in
    holding-below r.0 (get_or r.1 (get_or c.args.free_edges.now l.edge-index 0) []) _ (c.row.ensures r.0 r.1 ok.holders (ok.below l.edge-index c.loop-edge-test.true)) (length l.marks) (omega (arith, ok.marks))

pub loop-edge-preserved : goal.loop-edge-preserved
loop-edge-preserved c = λ rs edges ok.
    let free = c.args.free_edges.now in
    let old = c.args.marks.now in
    let l = c.loop-edge in
    let h = c.loop-edge-test.true in
    c.mark_all.ensures
    ∙ rw (c.row.ensures rs edges ok.holders (ok.below l.edge-index h), l.invariant rs edges ok) (sym (marked_append (met rs edges (take l.edge-index free)) _ old))
    ∙ ap (λ xs. marked xs old) (sym (met_next rs edges free l.edge-index h))
