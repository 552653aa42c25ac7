-- `lorentzian::dihedral::ten_dihedrals` meets its contract. Assumes nothing.
use Rattle.geometry.specs.CayleyMenger.{cofactors}
use Rattle.lorentzian.specs.Dihedral.{dihedral_by}
use Rattle.lorentzian.proofs.dihedral.ten_dihedrals.Goals as goal

pub returns : goal.returns
unfolding cofactors dihedral_by
returns g c f gives =
    rw (
      gives _ _ _ _ c.rule.ensures,
      gives _ _ _ _ c.rule-2.ensures,
      gives _ _ _ _ c.rule-3.ensures,
      gives _ _ _ _ c.rule-4.ensures,
      gives _ _ _ _ c.rule-5.ensures,
      gives _ _ _ _ c.rule-6.ensures,
      gives _ _ _ _ c.rule-7.ensures,
      gives _ _ _ _ c.rule-8.ensures,
      gives _ _ _ _ c.rule-9.ensures,
      gives _ _ _ _ c.rule-10.ensures,
      c.cm_cofactors-c.ensures,
    )
