-- `jacobian::all_lorentzian_dihedrals_jacobian` meets its contract. Assumes nothing.
use mathlib.Core.Path.{ap, ◌∙◌}
use mathlib.Core.List.{[]}
use Rattle.std.proofs.Common.{rules}
use Rattle.geometry.specs.Determinant.{table}
use Rattle.geometry.proofs.Tables.{table-calls}
use Rattle.jacobian.specs.Jacobian.{column, entry_of, jacobian}
use Rattle.jacobian.proofs.all_lorentzian_dihedrals_jacobian.Goals as goal

pub returns : goal.returns
unfolding jacobian
returns c =
    c.by_rows.ensures
    ∙ ap (λ columns. table 100 (entry_of columns)) (table-calls _ _ 10 (column c.args.s.now c.args.eps) (λ e y t h k. search rules) [] _ c.from_fn.ensures.items)
