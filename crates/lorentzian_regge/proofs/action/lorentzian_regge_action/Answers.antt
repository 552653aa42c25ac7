-- `lorentzian_regge::action::lorentzian_regge_action` meets its contract. Assumes nothing.
use Rattle.refusals.specs.Refusals.{answer_by}
use mathlib.Core.Path.{sym, ap, ◌∙◌}
use Rattle.hinges.specs.Hinges.{faces_of}
use Rattle.hinges.specs.Action.{action}
use Rattle.calls.proofs.BuiltCalls.{returned, built-refused, built-decided}
use Rattle.lorentzian_regge.proofs.action.lorentzian_regge_action.Goals as goal

pub returns-in_err-built : goal.returns-in_err-built
returns-in_err-built c =
    let a = c.args in
    returned _ _ c.from_residual.ensures.1
    ∙ ap (λ o. answer_by o (action (faces_of a.complex.now) a.sq_lengths.now)) (sym (built-refused _ _ _ (sym c.in_err-built.ensures.outcome)))

pub returns : goal.returns
returns c =
    let a = c.args in
    (rw (← c.in_ok-built.ensures.own) c.lorentzian_regge_action_built.ensures)
    ∙ ap (λ o. answer_by o (action (faces_of a.complex.now) a.sq_lengths.now)) (sym (built-decided _ _ _ (sym c.in_ok-built.ensures.outcome)))
