-- `lists::flat_rows::FlatRows::row` meets its contract. Assumes nothing.
use mathlib.Core.Path.{sym}
use Rattle.lists.proofs.Rows.{row-part}
use Rattle.lists.proofs.flat_rows.FlatRows.row.Goals as goal

pub returns : goal.returns
returns c = let r = c.args.self.now in sym (row-part r.width r.count r.list.now c.args.i c.requires)
