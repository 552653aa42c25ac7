-- `jacobian::dihedrals::dihedral_values` meets its contract. Assumes nothing.
use lib.Ieee.{nan}
use Rattle.std.proofs.Common.{rules}
use Rattle.lorentzian.specs.Dihedral.{value_of}
use Rattle.lorentzian.specs.declared.dihedral.Dihedral.TheVariants.{Angle}
use Rattle.geometry.proofs.Maps.{map-calls}
use Rattle.jacobian.proofs.dihedrals.dihedral_values.Goals as goal

pub returns : goal.returns
returns c = map-calls _ _ value_of (λ x y t k. search rules) 10 (Angle nan) nan c.args.d _ (search rules) c.map.ensures.items
