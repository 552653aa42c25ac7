-- `geometry::shared::minors_2x2` meets its contract. Assumes nothing.
use mathlib.Core.Path.{refl}
use Rattle.lists.specs.Lists.{combos, upto}
use Rattle.geometry.specs.Determinant.{at}
use Rattle.geometry.specs.Minors.{pick, det2, minors}
use Rattle.geometry.proofs.shared.minors_2x2.Goals as goal

pub returns : goal.returns
unfolding minors pick det2 at combos upto
returns c = refl
