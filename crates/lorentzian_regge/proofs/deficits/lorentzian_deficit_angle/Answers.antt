-- `lorentzian_regge::deficits::lorentzian_deficit_angle` meets its contract. Assumes nothing.
use Rattle.refusals.specs.Refusals.{answer_by}
use mathlib.Core.Path.{sym, ap, ◌∙◌}
use Rattle.hinges.specs.Hinges.{hinges, hinge_in, faces_of}
use Rattle.calls.proofs.BuiltCalls.{returned, built-refused, built-decided}
use Rattle.lorentzian_regge.proofs.deficits.lorentzian_deficit_angle.Goals as goal

pub returns-in_err-built : goal.returns-in_err-built
returns-in_err-built c =
    let a = c.args in
    returned _ _ c.from_residual.ensures.1
    ∙ ap (λ o. answer_by o (hinge_in (hinges (faces_of a.complex.now) a.sq_lengths.now) a.tri.0)) (sym (built-refused _ _ _ (sym c.in_err-built.ensures.outcome)))

pub returns : goal.returns
returns c =
    let a = c.args in
    (rw (← c.in_ok-built.ensures.own) c.lorentzian_deficit_angle_built.ensures)
    ∙ ap (λ o. answer_by o (hinge_in (hinges (faces_of a.complex.now) a.sq_lengths.now) a.tri.0)) (sym (built-decided _ _ _ (sym c.in_ok-built.ensures.outcome)))
