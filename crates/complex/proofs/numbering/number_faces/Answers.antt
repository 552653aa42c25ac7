-- `complex::numbering::number_faces` meets its contract. Assumes nothing.
use Prim.Native.Nat.{◌*◌, ◌/◌, ◌≤◌}
use mathlib.Core.Path.{◌≡◌, refl}
use native.Mathlib.Nat.{mul-le-mul_left}
use native.Mathlib.Omega.{arith}
use lib.ListN.{length, take, drop}
use Rattle.std.proofs.Common.{rules}
use Rattle.std.specs.Iterator.Adapters.{enumerate_count}
use Rattle.complex.specs.Complex.{width_of, count_of, faces_of, met_faces}
use Rattle.lists.specs.Lists.{gather}
use Rattle.lists.specs.Rows.{rows}
use Rattle.complex.proofs.Fives.{five-first, five-taken, five-next, five-last}
use Rattle.complex.proofs.Meetings.{length-met-rows, met_next, ready-none, numbered-all, face-below}
use Rattle.lists.proofs.Chains.{met-none, met-trans, ready-next}
use Rattle.complex.proofs.numbering.number_faces.Goals as goal

pub loop-k-init : goal.loop-k-init
unfolding rows met_faces gather
loop-k-init c =
    let a = c.args in
    let f = a.face in
    let z : enumerate_count c.into_iter-k-iterator.result ≡ 0 = search rules in
    let ready = ready-none f (length a.pents.now / 5) (length a.pents.now) a.list.now _ a.next.now a.numbers.now 32768 refl refl c.requires in record {
      at = five-first (search rules) (search rules) z;
      ready = ready;
      met = rw z (met-none (width_of f) a.list.now _ a.next.now a.numbers.now 0 0 ready.indexed);
    }

pub meet_rows-n-requires : goal.meet_rows-n-requires
meet_rows-n-requires c =
    let a = c.args in
    let f = a.face in
    let P = length a.pents.now / 5 in
    let l = c.loop-k in
    let i = l.invariant in
    let s = c.in-Some.ensures.steps in
    let k = enumerate_count l.k-iterator in
    let t = five-taken i.at s.0.1.0 s.0.1.1 in
    let many = length-met-rows f k a.pents.now (omega (arith, t.2)) in
    let below = face-below f k P (omega (arith, t.2)) in
    rw (c.width-width.ensures, c.count-count.ensures, s.1)
    (ready-next (width_of f) a.list.now l.list _ l.head a.next.now l.next a.numbers.now l.numbers 0 l.n 0 (count_of f * k) (count_of f * P) (count_of f) (met_faces f (rows 5 k a.pents.now))
    i.ready i.met (omega (arith, many)) (omega (arith, many)) (omega arith) (omega arith) (omega arith))

pub loop-k-preserved : goal.loop-k-preserved
loop-k-preserved c =
    let a = c.args in
    let f = a.face in
    let l = c.loop-k in
    let i = l.invariant in
    let s = c.in-Some.ensures.steps in
    let k = enumerate_count l.k-iterator in
    let t = five-taken i.at s.0.1.0 s.0.1.1 in
    let many = length-met-rows f k a.pents.now (omega (arith, t.2)) in
    let below = face-below f k (length a.pents.now / 5) (omega (arith, t.2)) in
    let g = c.meet_rows-n in
    let all = rw t.0 at (rw c.rows_of.ensures.faces at (rw s.1 at (rw c.count-count.ensures at (rw c.width-width.ensures at g.ensures)))) in record {
      at = five-next c.in-Some.pent.now i.at s.0.1.0 s.0.1.1 s.0.0 s.2;
      ready = i.ready;
      met =
          rw (s.2, met_next f k a.pents.now)
          (met-trans (width_of f) a.list.now l.list l.head l.next g.new.list g.new.head g.new.next a.numbers.now l.numbers g.new.numbers 0 l.n g.result 0 (count_of f * k) (met_faces f (rows 5 k a.pents.now)) (faces_of f (take 5 (drop (5 * k) a.pents.now)))
          i.met all (omega (arith, many)) (omega (arith, c.requires.searched.numbered)));
    }

pub returns : goal.returns
returns c =
    let a = c.args in
    let f = a.face in
    let P = length a.pents.now / 5 in
    let l = c.loop-k in
    let e : enumerate_count l.k-iterator ≡ P = five-last l.invariant.at c.in-None.ensures.steps.0.1.0 in
    let met = rw e at l.invariant.met in
    let many = length-met-rows f P a.pents.now (omega arith) in
    let few : l.n ≤ count_of f * P = omega (arith, met.to) in
    numbered-all f (rows 5 P a.pents.now) a.list.now l.list l.head l.next a.numbers.now l.numbers l.n met
    (omega (arith, mul-le-mul_left (width_of f) few, c.requires.room))
