-- `jacobian::jacobian_column` meets its contract. Assumes nothing.
use lib.Ieee.{nan}
use Rattle.std.proofs.Common.{rules}
use Rattle.geometry.proofs.Tables.{table-calls}
use Rattle.jacobian.specs.Jacobian.{column}
use Rattle.jacobian.proofs.jacobian_column.Goals as goal

pub returns : goal.returns
unfolding column
returns c =
    rw (← c.values_with-plus.ensures, ← c.values_with-minus.ensures)
    (table-calls _ _ 10 _ (λ k y t h call. search rules) nan _ c.from_fn.ensures.items)
