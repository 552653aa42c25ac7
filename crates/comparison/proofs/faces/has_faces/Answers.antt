-- `comparison::faces::has_faces` meets its contract. Assumes nothing.
use Prim.Native.Nat.{◌+◌, ◌*◌, ◌/◌, ◌≤◌}
use mathlib.Core.Path.{◌≡◌, refl, sym, ◌∙◌}
use native.Mathlib.Nat.{mul-le-mul_left}
use native.Mathlib.Omega.{arith}
use lib.ListN.{length, take, drop}
use Rattle.std.proofs.Common.{rules}
use Rattle.std.specs.Iterator.Adapters.{enumerate_count}
use Rattle.complex.specs.Complex.{width_of, count_of, faces_of, met_faces}
use Rattle.lists.specs.Lists.{gather}
use Rattle.lists.specs.Rows.{rows}
use Rattle.comparison.proofs.FaceLists.{too_many, too_short, has_all, has-noted, has-others, comparable-none}
use Rattle.complex.proofs.Fives.{five-first, five-taken, five-next, five-last}
use Rattle.complex.proofs.Meetings.{length-met-rows, met_next, face-below, faces-end}
use Rattle.lists.proofs.Chains.{met-none, met-trans, met-kept}
use Rattle.lists.proofs.Rows.{length-rows, rows-wide, drop-later}
use Rattle.lists.proofs.Tests.{not-both}
use Rattle.comparison.proofs.faces.has_faces.Goals as goal
use Rattle.comparison.proofs.faces.has_faces.Goals.{then-count-pents-via-then-count-pents, then-count-pents-via-else-count-pents+then-list-width}

pub returns-then-count-pents-clause-value : goal.returns-then-count-pents-clause-value
returns-then-count-pents-clause-value c =
    let a = c.args in
    let f = a.face in
    let P = length a.pents.now / 5 in
    let ps = rows 5 P a.pents.now in
    elim c.then-count-pents.branch [
      | then-count-pents-via-then-count-pents w ↦
          sym (too_many f ps a.n_faces a.list.now (rows-wide 5 P a.pents.now (omega (arith, c.requires.five))) (rw (length-rows 5 P a.pents.now) (rw c.count-count.ensures at w.if-count-pents.true)))
      | then-count-pents-via-else-count-pents+then-list-width w ↦ sym (too_short f ps a.n_faces a.list.now (rw c.width-width.ensures at w.if-list-width.true))
    ]

pub loop-k-init : goal.loop-k-init
unfolding rows met_faces gather
loop-k-init c =
    let a = c.args in
    let f = a.face in
    let P = length a.pents.now / 5 in
    let z : enumerate_count c.into_iter-k-iterator.result ≡ 0 = search rules in
    let ok = comparable-none f P (length a.pents.now) a.n_faces a.list.now _ a.next.now a.numbers.now 32768 refl refl c.requires (rw c.count-count.ensures at c.if-count-pents.false) (rw c.width-width.ensures at c.if-list-width.false) in record {
      at = five-first (search rules) (search rules) z;
      few = omega arith;
      comparable = ok;
      met = rw z (met-none (width_of f) a.list.now _ a.next.now a.numbers.now 0 0 ok.indexed);
    }

pub returns-in_default-clause-value : goal.returns-in_default-clause-value
returns-in_default-clause-value c =
    let a = c.args in
    let l = c.loop-k in
    let s = c.in-Some.ensures.steps in
    let k = enumerate_count l.k-iterator in
    let t = five-taken l.invariant.at s.0.1.0 s.0.1.1 in
    let told = rw t.0 at (rw c.rows_of.ensures.faces at (rw s.1 at (rw c.count-count.ensures at (rw c.width-width.ensures at c.match_rows.ensures)))) in
    sym (has-others a.face a.pents.now a.n_faces a.list.now k (length a.pents.now / 5) (omega (arith, t.2)) (rw (← l.invariant.met.known) (told.no c.in_default.is)))

pub returns-in_default-clause-numbers_after : goal.returns-in_default-clause-numbers_after
returns-in_default-clause-numbers_after c =
    let a = c.args in
    let f = a.face in
    let P = length a.pents.now / 5 in
    let l = c.loop-k in
    let s = c.in-Some.ensures.steps in
    let k = enumerate_count l.k-iterator in
    let t = five-taken l.invariant.at s.0.1.0 s.0.1.1 in
    let many = length-met-rows f k a.pents.now (omega (arith, t.2)) in
    let below = face-below f k P (omega (arith, t.2)) in
    let told = rw t.0 at (rw c.rows_of.ensures.faces at (rw s.1 at (rw c.count-count.ensures at (rw c.width-width.ensures at c.match_rows.ensures)))) in (
      λ t. absurd (not-both t refl),
      drop-later _ _ (count_of f * k + length (faces_of f (take 5 (drop (5 * k) a.pents.now)))) (count_of f * P) (faces-end f k P a.pents.now (omega (arith, t.2)) (omega (arith, c.requires.five))) told.kept
          ∙ met-kept (width_of f) a.list.now a.list.now l.head l.next a.numbers.now l.numbers 0 0 (met_faces f (rows 5 k a.pents.now)) l.n (count_of f * P) l.invariant.met (omega arith) (omega (arith, many, below)),
    )

pub loop-k-preserved : goal.loop-k-preserved
loop-k-preserved c =
    let a = c.args in
    let f = a.face in
    let P = length a.pents.now / 5 in
    let l = c.loop-k in
    let i = l.invariant in
    let s = c.in-Some.ensures.steps in
    let k = enumerate_count l.k-iterator in
    let t = five-taken i.at s.0.1.0 s.0.1.1 in
    let many = length-met-rows f k a.pents.now (omega (arith, t.2)) in
    let below = face-below f k P (omega (arith, t.2)) in
    let on = rw t.0 at (rw c.rows_of.ensures.faces at (rw s.1 at (rw c.count-count.ensures at (rw c.width-width.ensures at c.in-Some-match_rows.ensures.yes)))) in record {
      at = five-next c.in-Some.pent.now i.at s.0.1.0 s.0.1.1 s.0.0 s.2;
      few = on.1;
      comparable = i.comparable;
      met =
          rw (s.2, met_next f k a.pents.now)
          (met-trans (width_of f) a.list.now a.list.now l.head l.next a.list.now _ _ a.numbers.now l.numbers _ 0 l.n c.in-Some-match_rows.met 0 (count_of f * k) (met_faces f (rows 5 k a.pents.now)) (faces_of f (take 5 (drop (5 * k) a.pents.now)))
          i.met on.0 (omega (arith, many)) (omega (arith, c.requires.numbered)));
    }

pub returns : goal.returns
returns c =
    let a = c.args in
    let f = a.face in
    let P = length a.pents.now / 5 in
    let ps = rows 5 P a.pents.now in
    let l = c.loop-k in
    let e : enumerate_count l.k-iterator ≡ P = five-last l.invariant.at c.in-None.ensures.steps.0.1.0 in
    let met = rw e at l.invariant.met in
    let room : width_of f * l.n ≤ length a.list.now = omega (arith, mul-le-mul_left (width_of f) l.invariant.few, rw c.width-width.ensures at c.if-list-width.false) in record {
      value = has_all f ps a.n_faces a.list.now l.head l.next a.numbers.now l.numbers l.n met room;
      numbers_after = (
        λ t. has-noted f ps a.n_faces a.list.now l.head l.next a.numbers.now l.numbers l.n met,
        met-kept (width_of f) a.list.now a.list.now l.head l.next a.numbers.now l.numbers 0 0 (met_faces f ps) l.n (count_of f * P) met (omega arith) (omega (arith, length-met-rows f P a.pents.now (omega (arith, c.requires.five)))),
      );
    }
