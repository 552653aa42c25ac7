-- `geometry::cm_matrix_signed` meets its contract. Assumes nothing.
use mathlib.Core.Path.{refl}
use Rattle.geometry.specs.CayleyMenger.{cm}
use Rattle.geometry.proofs.cm_matrix_signed.Goals as goal

pub returns : goal.returns
unfolding cm
returns c = refl
