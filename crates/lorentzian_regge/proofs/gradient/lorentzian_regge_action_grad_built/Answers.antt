-- `lorentzian_regge::gradient::lorentzian_regge_action_grad_built` meets its contract. Assumes nothing.
use Rattle.refusals.specs.Refusals.{Done}
use Rattle.std.proofs.Common.{rules}
use mathlib.Core.Path.{◌≡◌, sym, ap, ◌∙◌}
use native.Mathlib.Omega.{arith}
use lib.ListN.{length, take, replicate}
use lib.Seq.{length-take-le}
use borrow.Author.Tests.{ltb-false}
use Rattle.floats.specs.Ops.{zero}
use Rattle.lists.specs.Rows.{over}
use Rattle.hinges.specs.Hinges.{faces_of}
use Rattle.calls.proofs.BuiltCalls.{measured, returned, lengths-passed, lengths-refused, lengths-decided, room-passed, filled-refused}
use Rattle.lorentzian_regge.proofs.Scratch.{entries_over, gradient-front}
use Rattle.lorentzian_regge.proofs.gradient.lorentzian_regge_action_grad_built.Goals as goal

pub returns-in_err-check_lengths : goal.returns-in_err-check_lengths
returns-in_err-check_lengths c = filled-refused (lengths-refused _ _ _ (sym c.in_err-check_lengths.ensures)) (returned _ _ c.from_residual.ensures.1)

pub returns-in_err-check_room : goal.returns-in_err-check_room
returns-in_err-check_room c =
    filled-refused (lengths-decided _ _ _ (sym c.in_ok-check_lengths.ensures) ∙ sym c.in_err-check_room.ensures) (returned _ _ c.from_residual-in_err-check_room.ensures.1)

pub write_table-requires : goal.write_table-requires
write_table-requires c =
    let m = measured c.args.built.now (length c.args.sq_lengths.now) (lengths-passed _ _ Done (sym c.in_ok-check_lengths.ensures)).0 in
    (m.passable, m.few, m.few)

pub slice_bounds-entries-end : goal.slice_bounds-entries-end
slice_bounds-entries-end c = ltb-false _ _ (room-passed _ (sym c.in_ok-check_room.ensures))

pub slice_bounds-entries-end-2 : goal.slice_bounds-entries-end-2
slice_bounds-entries-end-2 c =
    let n = c.args.built.now.complex.counts.edges in
    omega (arith, length-take-le n c.args.grad.now (ltb-false (length c.args.grad.now) n (room-passed _ (sym c.in_ok-check_room.ensures))))

pub add_all_contributions-requires : goal.add_all_contributions-requires
add_all_contributions-requires c =
    let a = c.args in
    let e = (lengths-passed _ _ Done (sym c.in_ok-check_lengths.ensures)).0 in
    let n = a.built.now.complex.counts.edges in (
      e,
      omega (arith, (measured a.built.now (length a.sq_lengths.now) e).few, c.write_table.auto.deficits),
      omega (arith, length-take-le n a.grad.now (ltb-false (length a.grad.now) n (room-passed _ (sym c.in_ok-check_room.ensures))), c.fill.auto.self),
    )

pub returns : goal.returns
returns c =
    let a = c.args in
    let b = a.built.now in
    let n = b.complex.counts.edges in
    let long : length (take n a.grad.now) ≡ n = length-take-le n a.grad.now (ltb-false (length a.grad.now) n (room-passed _ (sym c.in_ok-check_room.ensures))) in
    let zeros : c.fill.new.self ≡ replicate (length (take n a.grad.now)) zero = search rules in
    record {
      answered = c.in_ok-check_room.ensures ∙ sym (lengths-decided _ _ _ (sym c.in_ok-check_lengths.ensures));
      entries =
          entries_over b a.sq_lengths.now c.write_table.new.deficits a.grad.now c.fill.new.self c.add_all_contributions.new.grad (rw long at zeros) c.add_all_contributions.ensures
          ∙ ap (λ r. over r a.grad.now) (gradient-front (faces_of b.complex) a.sq_lengths.now _ _ c.write_table.ensures.0);
    }
