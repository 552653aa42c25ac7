-- `retouch::retouch` meets its contract. Assumes nothing.
use mathlib.Core.Path.{sym}
use Rattle.calls.proofs.BuiltCalls.{returned, built-refused, built-decided}
use Rattle.retouch.proofs.TouchedSteps.{retouched-refused, retouched-same}
use Rattle.retouch.proofs.retouch.Goals as goal

pub returns-in_err-built : goal.returns-in_err-built
returns-in_err-built c = retouched-refused (built-refused _ _ _ (sym c.in_err-built.ensures.outcome)) (returned _ _ c.from_residual.ensures.1)

pub returns : goal.returns
returns c = retouched-same (sym (built-decided _ _ _ (sym c.in_ok-built.ensures.outcome))) (rw (← c.in_ok-built.ensures.own) c.retouch_built.ensures)
