-- `incidence::pent_edge_indices` meets its contract. Assumes nothing.
use mathlib.Core.Path.{◌∙◌}
use Rattle.incidence.proofs.Incident.{ten-edges}
use Rattle.incidence.proofs.pent_edge_indices.Goals as goal

pub ten-requires : goal.ten-requires
ten-requires c = let a = c.args in (ten-edges a.complex.now a.incidence.now a.pent.0 c.requires.1 c.requires.0).0

pub returns : goal.returns
returns c = let a = c.args in c.ten.ensures ∙ (ten-edges a.complex.now a.incidence.now a.pent.0 c.requires.1 c.requires.0).1
