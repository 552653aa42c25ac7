-- `incidence::pent_tri_indices` meets its contract. Assumes nothing.
use mathlib.Core.Path.{◌∙◌}
use Rattle.incidence.proofs.Incident.{ten-triangles}
use Rattle.incidence.proofs.pent_tri_indices.Goals as goal

pub ten-requires : goal.ten-requires
ten-requires c = let a = c.args in (ten-triangles a.complex.now a.incidence.now a.pent.0 c.requires.1 c.requires.0).0

pub returns : goal.returns
returns c = let a = c.args in c.ten.ensures ∙ (ten-triangles a.complex.now a.incidence.now a.pent.0 c.requires.1 c.requires.0).1
