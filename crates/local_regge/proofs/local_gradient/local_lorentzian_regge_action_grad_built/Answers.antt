-- `local_regge::local_gradient::local_lorentzian_regge_action_grad_built` meets its contract. Assumes nothing.
use mathlib.Core.Path.{sym, ◌∙◌}
use lib.ListN.{length}
use borrow.Author.Tests.{ltb-false}
use Rattle.calls.proofs.BuiltCalls.{returned, few-edges, room-passed, filled-refused}
use Rattle.local_regge.proofs.LocalSteps.{Passed, local-passed, first-refused, second-refused, others-left}
use Rattle.local_regge.proofs.local_gradient.local_lorentzian_regge_action_grad_built.Goals as goal
use Rattle.local_regge.proofs.local_gradient.local_lorentzian_regge_action_grad_built.Goals.{In_ok-check_free}

-- what the complex has where the checks of lengths and free edges let the call pass
passed : (c : In_ok-check_free) → Passed c.args.built.now c.args.free_edges.now (length c.args.sq_lengths.now)
passed c = local-passed c.args.built.now c.args.free_edges.now (length c.args.sq_lengths.now) c.in_ok-check_lengths.ensures c.in_ok-check_free.ensures

pub check_free-requires : goal.check_free-requires
check_free-requires c = few-edges c.args.built.now

pub returns-in_err-check_lengths : goal.returns-in_err-check_lengths
returns-in_err-check_lengths c = filled-refused (first-refused _ _ _ _ c.in_err-check_lengths.ensures) (returned _ _ c.from_residual.ensures.1)

pub returns-in_err-check_free : goal.returns-in_err-check_free
returns-in_err-check_free c =
    filled-refused (second-refused _ _ _ _ c.in_ok-check_lengths.ensures c.in_err-check_free.ensures) (returned _ _ c.from_residual-in_err-check_free.ensures.1)

pub returns-in_err-check_room : goal.returns-in_err-check_room
returns-in_err-check_room c =
    filled-refused (others-left _ _ _ _ c.in_ok-check_lengths.ensures c.in_ok-check_free.ensures ∙ sym c.in_err-check_room.ensures) (returned _ _ c.from_residual-in_err-check_room.ensures.1)

pub write_gradient-requires : goal.write_gradient-requires
write_gradient-requires c =
    let p = passed (goal.at.write_gradient-requires c).In_ok-check_free in
    (p.lengths, p.below, ltb-false _ _ (room-passed _ (sym c.in_ok-check_room.ensures)))

pub returns : goal.returns
returns c = record {
  answered = c.in_ok-check_room.ensures ∙ sym (others-left _ _ _ _ c.in_ok-check_lengths.ensures c.in_ok-check_free.ensures);
  entries = c.write_gradient.ensures;
}
