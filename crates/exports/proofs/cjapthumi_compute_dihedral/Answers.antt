-- `exports::cjapthumi_compute_dihedral` meets its contract. Assumes nothing.
use Rattle.exports.proofs.cjapthumi_compute_dihedral.Goals as goal

pub returns : goal.returns
returns c = (rw (c.kind_number.ensures, c.compute_dihedral-dihedral.ensures), rw (c.value.ensures, c.compute_dihedral-dihedral.ensures))
