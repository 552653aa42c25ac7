-- `incidence::ten` meets its contract. Assumes nothing.
use Rattle.lists.proofs.Rows.{part-row}
use Rattle.incidence.proofs.ten.Goals as goal

pub returns : goal.returns
returns c = let a = c.args in part-row 10 a.i a.numbers.now
