-- `geometry::det_3x3` meets its contract. Assumes nothing.
use mathlib.Core.Path.{refl}
use Rattle.geometry.specs.Determinant.{at, det3}
use Rattle.geometry.proofs.det_3x3.Goals as goal

pub returns : goal.returns
unfolding at det3
returns c = refl
