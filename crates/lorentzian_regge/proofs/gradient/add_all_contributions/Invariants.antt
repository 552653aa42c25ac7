-- `lorentzian_regge::gradient::add_all_contributions` meets its contract. Assumes nothing.
use mathlib.Core.Path.{◌≡◌}
use lib.Ieee.{nan}
use Rattle.floats.specs.Ops.{◌⊕◌}
use Rattle.lists.specs.Lists.{gather, upto}
use Rattle.lists.specs.Loops.{scatter}
use Rattle.hinges.specs.Hinges.{faces_of}
use Rattle.hinges.specs.Action.{contributions}
use Rattle.lorentzian_regge.proofs.gradient.add_all_contributions.Given as goal

abbrev pub invariant-loop-t : goal.invariant-loop-t
invariant-loop-t l = l.grad ≡ scatter nan ◌⊕◌ (gather (contributions (faces_of l.built.complex) l.sq_lengths l.deficits) (upto l.t)) l.initial.grad
