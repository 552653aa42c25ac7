-- `geometry::plain_cofactors` meets its contract. Assumes nothing.
use Rattle.geometry.specs.CayleyMenger.{cofactors}
use Rattle.geometry.proofs.plain_cofactors.Goals as goal

pub returns : goal.returns
unfolding cofactors
returns c =
    rw (
      c.cofactor_at.ensures,
      c.cofactor_at-2.ensures,
      c.cofactor_at-3.ensures,
      c.cofactor_at-4.ensures,
      c.cofactor_at-5.ensures,
      c.cofactor_at-6.ensures,
      c.cofactor_at-7.ensures,
      c.cofactor_at-8.ensures,
      c.cofactor_at-9.ensures,
      c.cofactor_at-10.ensures,
      c.cofactor_at-11.ensures,
      c.cofactor_at-12.ensures,
      c.cofactor_at-13.ensures,
      c.cofactor_at-14.ensures,
      c.cofactor_at-15.ensures,
      c.cm_matrix_signed-m.ensures,
    )
