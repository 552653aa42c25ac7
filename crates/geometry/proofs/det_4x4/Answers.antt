-- `geometry::det_4x4` meets its contract. Assumes nothing.
use mathlib.Core.Path.{refl}
use Rattle.std.proofs.Common.{rules}
use Rattle.floats.specs.Algebra.{doubles}
use Rattle.geometry.specs.Determinant.{det3, det4}
use Rattle.geometry.proofs.det_4x4.Goals as goal

pub returns : goal.returns
unfolding det4
returns c = c.expand.ensures c.args.m.now (det3 doubles) 3 refl (λ col y h k. search rules)
