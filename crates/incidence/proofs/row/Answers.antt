-- `incidence::row` meets its contract. Assumes nothing.
use mathlib.Core.Path.{◌∙◌}
use native.Mathlib.Omega.{arith}
use Rattle.incidence.proofs.Incident.{holders-fit, holders-are}
use Rattle.incidence.proofs.row.Goals as goal

pub part-requires : goal.part-requires
part-requires c = let r = c.requires in holders-fit r.0 r.1 c.args.adjacency.now r.2 _ (omega (arith, r.3))

pub returns : goal.returns
returns c rs keys ok h = c.part.ensures ∙ holders-are rs keys c.args.adjacency.now ok c.args.i h
