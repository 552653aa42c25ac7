-- `lists::numbering::meet_rows` meets its contract. The loop's invariant: the first q rows are met. Assumes nothing.
use Prim.Native.Nat.{◌+◌, ◌*◌}
use mathlib.Core.List.{[], ◌∷◌}
use mathlib.Core.Path.{◌≡◌, ◌∙◌}
use native.Mathlib.Numerals.{add-one}
use native.Mathlib.Omega.{arith}
use lib.ListN.{length, take, drop}
use Rattle.lists.specs.Rows.{rows}
use Rattle.lists.proofs.Chains.{met-none, met-trans, ready-next}
use Rattle.lists.proofs.Rows.{length-rows, rows_snoc, rows_at, length_part}
use Rattle.lists.proofs.numbering.meet_rows.Goals as goal

pub loop-q-init : goal.loop-q-init
unfolding rows
loop-q-init c = let a = c.args in let r = a.given.now in met-none r.width a.list.now a.head.now a.next.now a.numbers.now a.n a.at c.requires.indexed

pub meet_row-m-requires : goal.meet_row-m-requires
meet_row-m-requires c =
    let a = c.args in
    let r = a.given.now in
    let p = c.requires in
    let l = c.loop-q in
    let many : length (rows r.width l.q r.list.now) ≡ l.q = length-rows r.width l.q r.list.now in
    let row = c.row.ensures ∙ rows_at r.width r.count r.list.now l.q (omega arith) in
    let size = length_part r.width l.q r.count r.list.now (omega arith) r.inside in
    rw (row, size)
    (ready-next r.width a.list.now l.list a.head.now l.head a.next.now l.next a.numbers.now l.numbers a.n l.m a.at (a.at + l.q) r.count 1 (rows r.width l.q r.list.now)
    p l.invariant (omega arith) (omega arith) (omega arith) (omega arith) (omega arith))

pub loop-q-preserved : goal.loop-q-preserved
loop-q-preserved c =
    let a = c.args in
    let r = a.given.now in
    let p = c.requires in
    let l = c.loop-q in
    let many : length (rows r.width l.q r.list.now) ≡ l.q = length-rows r.width l.q r.list.now in
    let row = c.row.ensures ∙ rows_at r.width r.count r.list.now l.q (omega arith) in
    let size = length_part r.width l.q r.count r.list.now (omega arith) r.inside in
    let f = c.meet_row-m in
    let met = rw size at (rw row at f.ensures) in
    rw (add-one l.q, rows_snoc r.width l.q r.list.now)
    (met-trans r.width a.list.now l.list l.head l.next f.new.list f.new.head f.new.next a.numbers.now l.numbers f.new.numbers a.n l.m f.result a.at (a.at + l.q) (rows r.width l.q r.list.now) (take r.width (drop (r.width * l.q) r.list.now) ∷ [])
    l.invariant met (omega arith) (omega (arith, p.numbers)))
