-- `geometry::det_5x5` meets its contract. Assumes nothing.
use mathlib.Core.Path.{refl}
use Rattle.std.proofs.Common.{rules}
use Rattle.floats.specs.Algebra.{doubles}
use Rattle.geometry.specs.Determinant.{det4, det5}
use Rattle.geometry.proofs.det_5x5.Goals as goal

pub returns : goal.returns
unfolding det5
returns c = c.expand.ensures c.args.m.now (det4 doubles) 4 refl (λ col y h k. search rules)
