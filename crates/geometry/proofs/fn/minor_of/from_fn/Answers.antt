-- The closure of `geometry::minor_of` meets its contract. Assumes nothing.
use Rattle.geometry.specs.Determinant.{at}
use Rattle.geometry.proofs.fn.minor_of.from_fn.Goals as goal

pub returns : goal.returns
unfolding at
returns g c = rw (c.row_without.ensures, c.skip_one.ensures.0)
