-- `jacobian::by_rows` meets its contract. Assumes nothing.
use lib.Ieee.{nan}
use Rattle.std.proofs.Common.{rules}
use Rattle.geometry.proofs.Tables.{table-calls}
use Rattle.jacobian.specs.Jacobian.{entry_of}
use Rattle.jacobian.proofs.by_rows.Goals as goal

pub returns : goal.returns
unfolding entry_of
returns c = table-calls _ _ 100 _ (λ i y t h k. search rules) nan _ c.from_fn.ensures.items
