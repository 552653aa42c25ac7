-- `geometry::shared::minors_3x3` meets its contract. Assumes nothing.
use Rattle.lists.specs.Lists.{combos, upto}
use Rattle.lists.specs.Keys.{eqs, find}
use Rattle.geometry.proofs.Expansions.{beside, by_two, by-two-is}
use Rattle.geometry.proofs.shared.minors_3x3.Goals as goal

pub returns : goal.returns
unfolding by_two beside find eqs combos upto
returns c = λ y z m. by-two-is c.args.x.now y z c.args.m.now m
