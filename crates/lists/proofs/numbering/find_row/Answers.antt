-- `lists::numbering::find_row` meets its contract. The loop's invariant: no row from cur on is the row, and the one before cur
-- is in its chain. Assumes nothing.
use Prim.Native.Nat.{◌*◌, ◌-◌}
use mathlib.Core.List.{[]}
use mathlib.Core.Path.{◌≡◌, sym, ◌∙◌}
use native.Mathlib.Omega.{arith}
use lib.ListN.{length, get_or, take, drop}
use Rattle.lists.specs.Chains.{hash}
use Rattle.lists.specs.Rows.{rows}
use Rattle.lists.proofs.Chains.{head-fits, walk_top, walk-next, walk-chain, walk-found, walk_end}
use Rattle.lists.proofs.Keys.{eqs-says}
use Rattle.lists.proofs.Rows.{length-rows, rows_at}
use Rattle.lists.proofs.Tests.{said, denied}
use Rattle.lists.proofs.numbering.find_row.Goals as goal

pub offset_bounds-head-chain : goal.offset_bounds-head-chain
offset_bounds-head-chain c =
    let p = c.requires in
    omega (arith, head-fits c.args.row.now c.args.chain p.2 p.1)

pub bounds-head-chain : goal.bounds-head-chain
bounds-head-chain c = let p = c.requires in head-fits c.args.row.now c.args.chain p.2 p.1

pub loop-cur-init : goal.loop-cur-init
loop-cur-init c =
    let a = c.args in
    let p = c.requires in
    let many = length-rows (length a.row.now) a.n a.list.now in
    let q : a.chain ≡ hash a.row.now = p.1 in
    rw q
    (record {
      known = omega (arith, p.2.head_le (hash a.row.now));
      absent = walk_top (rows (length a.row.now) a.n a.list.now) a.head.now a.next.now a.row.now p.2;
      here = p.2.head_in (hash a.row.now);
    })

pub returns-then-same_row : goal.returns-then-same_row
returns-then-same_row c =
    let a = c.args in
    let w = length a.row.now in
    let k = c.loop-cur.cur - 1 in
    let many = length-rows w a.n a.list.now in
    let same : a.row.now ≡ take w (drop (w * k) a.list.now) = said (eqs-says _ _) (sym c.same_row.ensures ∙ c.if-same_row.true) in
    walk-found (rows w a.n a.list.now) a.head.now a.next.now a.row.now c.requires.2 k (omega arith) (rows_at w a.n a.list.now k (omega arith) ∙ sym same)

pub offset_bounds-next-k : goal.offset_bounds-next-k
offset_bounds-next-k c = let a = c.args in omega (arith, length-rows (length a.row.now) a.n a.list.now, c.requires.2.links)

pub bounds-next-k : goal.bounds-next-k
bounds-next-k c = let a = c.args in omega (arith, length-rows (length a.row.now) a.n a.list.now, c.requires.2.links)

pub loop-cur-smaller : goal.loop-cur-smaller
loop-cur-smaller c =
    let a = c.args in
    let many = length-rows (length a.row.now) a.n a.list.now in
    omega (arith, c.requires.2.next_le (c.loop-cur.cur - 1) (omega arith))

pub loop-cur-preserved : goal.loop-cur-preserved
loop-cur-preserved c =
    let a = c.args in
    let p = c.requires in
    let l = c.loop-cur in
    let w = length a.row.now in
    let k = l.cur - 1 in
    let ks = rows w a.n a.list.now in
    let many : length ks ≡ a.n = length-rows w a.n a.list.now in
    let other : get_or ks k [] ≡ a.row.now → ⊥ =
    λ e. denied (eqs-says _ _) (sym c.same_row.ensures ∙ c.if-same_row.false) (sym e ∙ rows_at w a.n a.list.now k (omega arith)) in
    let here = l.invariant.here (omega arith) in
    record {
      known = omega (arith, p.2.next_le k (omega arith));
      absent = walk-next ks a.head.now a.next.now a.row.now p.2 l.cur (omega arith) (omega arith) l.invariant.absent here other;
      here = walk-chain ks a.head.now a.next.now a.row.now p.2 l.cur (omega arith) (omega arith) l.invariant.absent here other;
    }

pub returns : goal.returns
returns c =
    let a = c.args in
    let l = c.loop-cur in
    let e : l.cur ≡ 0 = omega arith in
    sym (length-rows (length a.row.now) a.n a.list.now) ∙ walk_end (rows (length a.row.now) a.n a.list.now) a.head.now a.next.now a.row.now c.requires.2 (rw e at l.invariant.absent)
