-- `hinge_table::lorentzian_deficit_angles` meets its contract. Assumes nothing.
use mathlib.Core.Path.{sym}
use Rattle.calls.proofs.BuiltCalls.{returned, built-refused, built-decided}
use Rattle.hinge_table.proofs.TableSteps.{worked-refused, worked-same}
use Rattle.hinge_table.proofs.lorentzian_deficit_angles.Goals as goal

pub returns-in_err-built : goal.returns-in_err-built
returns-in_err-built c = worked-refused (built-refused _ _ _ (sym c.in_err-built.ensures.outcome)) (returned _ _ c.from_residual.ensures.1)

pub returns : goal.returns
returns c = worked-same (sym (built-decided _ _ _ (sym c.in_ok-built.ensures.outcome))) (rw (← c.in_ok-built.ensures.own) c.deficit_angles_of.ensures)
