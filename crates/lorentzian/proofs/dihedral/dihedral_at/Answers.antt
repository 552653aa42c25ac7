-- `lorentzian::dihedral::dihedral_at` meets its contract. Assumes nothing.
use mathlib.Core.Path.{◌∙◌}
use Rattle.lorentzian.specs.Dihedral.{dihedral_by}
use Rattle.lorentzian.proofs.dihedral.dihedral_at.Goals as goal

pub returns : goal.returns
unfolding dihedral_by
returns g c f gives =
    gives _ _ _ _ c.rule.ensures
    ∙ rw (
      c.cofactor_at-c_lm.ensures,
      c.cofactor_at-c_ll.ensures,
      c.cofactor_at-c_mm.ensures,
      c.cm_matrix_signed-cm.ensures,
    )
