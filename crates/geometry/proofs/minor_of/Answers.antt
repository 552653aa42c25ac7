-- `geometry::minor_of` meets its contract. Assumes nothing.
use Rattle.std.proofs.Common.{rules, []}
use Rattle.geometry.specs.Determinant.{minor}
use Rattle.geometry.proofs.Tables.{table-calls}
use Rattle.geometry.proofs.minor_of.Goals as goal

pub returns : goal.returns
unfolding minor
returns g c = table-calls _ _ g.row.M _ (λ i y t h k. search rules) [] _ c.from_fn.ensures.items
