-- `lorentzian_regge::action::lorentzian_regge_action_built` meets its contract. Assumes nothing.
use Rattle.refusals.specs.Refusals.{Done, answer_by}
use Rattle.std.specs.Prelude.{Ok}
use mathlib.Core.Path.{sym, ap, ◌∙◌}
use native.Mathlib.Omega.{arith}
use lib.ListN.{length}
use Rattle.hinges.specs.Hinges.{faces_of}
use Rattle.hinges.specs.Action.{action}
use Rattle.calls.proofs.BuiltCalls.{measured, lengths-passed}
use Rattle.lorentzian_regge.proofs.Scratch.{action-front}
use Rattle.lorentzian_regge.proofs.action.lorentzian_regge_action_built.Goals as goal

pub write_table-requires : goal.write_table-requires
write_table-requires c =
    let m = measured c.args.built.now (length c.args.sq_lengths.now) (lengths-passed _ _ Done (sym c.in_ok-check_lengths.ensures)).0 in
    (m.passable, m.few, m.few)

pub sum_up-requires : goal.sum_up-requires
sum_up-requires c =
    let e = (lengths-passed _ _ Done (sym c.in_ok-check_lengths.ensures)).0 in
    (e, omega (arith, (measured c.args.built.now (length c.args.sq_lengths.now) e).few, c.write_table.auto.deficits))

pub returns : goal.returns
returns c =
    let a = c.args in
    let F = faces_of a.built.now.complex in
    ap Ok (c.sum_up.ensures ∙ action-front F a.sq_lengths.now _ _ c.write_table.ensures.0)
    ∙ ap (λ o. answer_by o (action F a.sq_lengths.now)) c.in_ok-check_lengths.ensures
