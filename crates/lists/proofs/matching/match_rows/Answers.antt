-- `lists::matching::match_rows` meets its contract. The loop's invariant: the list has the first q rows. Assumes nothing.
use Prim.Native.Nat.{◌+◌, ◌*◌}
use mathlib.Core.List.{[], ◌∷◌}
use mathlib.Core.Path.{◌≡◌, refl, ◌∙◌}
use native.Mathlib.Numerals.{add-one}
use native.Mathlib.Omega.{arith}
use lib.ListN.{length, take, drop}
use Rattle.lists.specs.Rows.{rows}
use Rattle.lists.proofs.Chains.{met-none, met-trans, met-kept}
use Rattle.lists.proofs.Matches.{others-all}
use Rattle.lists.proofs.Rows.{length-rows, rows_snoc, rows_at, length_part, drop-later}
use Rattle.lists.proofs.matching.match_rows.Goals as goal

pub loop-q-init : goal.loop-q-init
unfolding rows
loop-q-init c =
    let a = c.args in
    let r = a.given.now in
    record {
      met = met-none r.width a.list.now a.head.now a.next.now a.numbers.now a.n a.at c.requires.indexed;
      few = c.requires.known;
    }

pub match_row-requires : goal.match_row-requires
match_row-requires c =
    let a = c.args in
    let r = a.given.now in
    let p = c.requires in
    let l = c.loop-q in
    let row = c.row.ensures ∙ rows_at r.width r.count r.list.now l.q (omega arith) in
    let size = length_part r.width l.q r.count r.list.now (omega arith) r.inside in
    rw (row, size)
    (record { indexed = l.invariant.met.indexed; known = l.invariant.few; room = p.room; links = omega (arith, p.links); numbers = omega (arith, p.numbers); few = p.few })

pub returns-in_err-m : goal.returns-in_err-m
returns-in_err-m c =
    let a = c.args in
    let r = a.given.now in
    let p = c.requires in
    let l = c.loop-q in
    let many : length (rows r.width l.q r.list.now) ≡ l.q = length-rows r.width l.q r.list.now in
    let all : length (rows r.width r.count r.list.now) ≡ r.count = length-rows r.width r.count r.list.now in
    let row = c.row.ensures ∙ rows_at r.width r.count r.list.now l.q (omega arith) in
    let size = length_part r.width l.q r.count r.list.now (omega arith) r.inside in
    let told = rw size at (rw row at c.in_err-m.ensures) in
    rw c.from_residual.ensures
    (record {
      yes = tt;
      no = λ f. others-all r.width a.list.now r.list.now a.most l.q r.count (rows r.width a.n a.list.now) (omega arith) (rw (← l.invariant.met.known) (told.no refl));
      kept =
          drop-later _ _ (a.at + l.q + 1) (a.at + length (rows r.width r.count r.list.now)) (omega (arith, all)) told.kept
          ∙ met-kept r.width a.list.now a.list.now l.head l.next a.numbers.now l.numbers a.n a.at (rows r.width l.q r.list.now) l.m (a.at + length (rows r.width r.count r.list.now))
          l.invariant.met (omega (arith, p.numbers)) (omega (arith, many, all));
    })

pub loop-q-preserved : goal.loop-q-preserved
loop-q-preserved c =
    let a = c.args in
    let r = a.given.now in
    let p = c.requires in
    let l = c.loop-q in
    let many : length (rows r.width l.q r.list.now) ≡ l.q = length-rows r.width l.q r.list.now in
    let row = c.row.ensures ∙ rows_at r.width r.count r.list.now l.q (omega arith) in
    let size = length_part r.width l.q r.count r.list.now (omega arith) r.inside in
    let told = rw size at (rw row at c.in_ok-m.ensures) in
    record {
      met =
          rw (add-one l.q, rows_snoc r.width l.q r.list.now)
          (met-trans r.width a.list.now a.list.now l.head l.next a.list.now _ _ a.numbers.now l.numbers _ a.n l.m c.in_ok-m.m a.at (a.at + l.q) (rows r.width l.q r.list.now) (take r.width (drop (r.width * l.q) r.list.now) ∷ [])
          l.invariant.met told.yes.0 (omega arith) (omega (arith, p.numbers)));
      few = told.yes.1;
    }
