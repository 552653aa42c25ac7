-- `geometry::shared::bordered_cofactor` meets its contract. Assumes nothing.
use mathlib.Core.Path.{refl}
use Rattle.geometry.specs.Minors.{past_zero}
use Rattle.geometry.proofs.shared.bordered_cofactor.Goals as goal

pub returns : goal.returns
unfolding past_zero
returns c = refl
