-- `geometry::shared::minors_4x4` meets its contract. Assumes nothing.
use Rattle.lists.specs.Lists.{combos, upto}
use Rattle.lists.specs.Keys.{eqs, find}
use Rattle.geometry.specs.Determinant.{sign}
use Rattle.geometry.proofs.Expansions.{beside, by_three, by-three-is}
use Rattle.geometry.proofs.shared.minors_4x4.Goals as goal

pub returns : goal.returns
unfolding by_three beside find eqs sign combos upto
returns c = λ y z w m. by-three-is c.args.x.now y z w c.args.m.now m
