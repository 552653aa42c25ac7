-- `exports::cjapthumi_all_lorentzian_dihedrals` meets its contract. Assumes nothing.
use Rattle.exports.proofs.cjapthumi_all_lorentzian_dihedrals.Goals as goal

pub returns : goal.returns
returns c = (rw (c.dihedral_values.ensures, c.all_lorentzian_dihedrals-d.ensures), rw (c.dihedral_kinds.ensures, c.all_lorentzian_dihedrals-d.ensures))
