-- `lorentzian_regge::gradient::lorentzian_regge_action_grad` meets its contract. Assumes nothing.
use mathlib.Core.Path.{sym}
use Rattle.calls.proofs.BuiltCalls.{returned, built-refused, built-decided, filled-refused, filled-same}
use Rattle.lorentzian_regge.proofs.gradient.lorentzian_regge_action_grad.Goals as goal

pub returns-in_err-built : goal.returns-in_err-built
returns-in_err-built c = filled-refused (built-refused _ _ _ (sym c.in_err-built.ensures.outcome)) (returned _ _ c.from_residual.ensures.1)

pub returns : goal.returns
returns c = filled-same (sym (built-decided _ _ _ (sym c.in_ok-built.ensures.outcome))) (rw (← c.in_ok-built.ensures.own) c.lorentzian_regge_action_grad_built.ensures)
