-- `geometry::cofactor_at` meets its contract. Assumes nothing.
use Rattle.geometry.specs.Determinant.{cofactor}
use Rattle.geometry.proofs.cofactor_at.Goals as goal

pub returns : goal.returns
unfolding cofactor
returns c = rw (c.sign_of.ensures, c.det_5x5.ensures, c.minor_of.ensures)
