-- A lent list seen as its rows. Definitions only.
use Rattle.std.specs.Prelude.{ℕ, List}
use Rattle.lists.specs.declared.flat_rows.FlatRows.{FlatRows}
use Rattle.lists.specs.Rows.{rows}

-- the rows of a lent list
abbrev pub rows_of : FlatRows → List (List ℕ)
rows_of r = rows r.width r.count r.list.now
