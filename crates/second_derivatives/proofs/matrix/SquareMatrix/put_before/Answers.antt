-- `second_derivatives::matrix::SquareMatrix::put_before` meets its contract. Assumes nothing.
use mathlib.Core.Path.{refl, sym, ◌∙◌}
use Rattle.lists.specs.Loops.{scatter}
use Rattle.second_derivatives.proofs.Placing.{placed_at, placed_nowhere}
use Rattle.second_derivatives.proofs.matrix.SquareMatrix.put_before.Goals as goal

pub returns-in-Some : goal.returns-in-Some
unfolding scatter
returns-in-Some c =
    let a = c.args in
    record { size = refl; lent = refl; entries = rw (placed_at a.self.now.n a.row a.col a.x c.in-Some.ensures.value) refl }

pub returns-in_default : goal.returns-in_default
unfolding scatter
returns-in_default c =
    let a = c.args in
    record { size = refl; lent = refl; entries = rw (placed_nowhere a.self.now.n a.row a.col a.x (sym c.in_default.is ∙ c.place.ensures.value)) refl }
