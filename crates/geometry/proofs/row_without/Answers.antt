-- `geometry::row_without` meets its contract. Assumes nothing.
use lib.Ieee.{nan}
use Rattle.std.proofs.Common.{rules}
use Rattle.geometry.proofs.Tables.{table-calls}
use Rattle.geometry.proofs.row_without.Goals as goal

pub returns : goal.returns
returns g c = table-calls _ _ g.row.M _ (λ i y t h k. search rules) nan _ c.from_fn.ensures.items
