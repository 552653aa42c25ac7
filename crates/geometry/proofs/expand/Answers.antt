-- `geometry::expand` meets its contract. Assumes nothing.
use mathlib.Core.Path.{refl}
use native.Mathlib.Nat.{zero-add}
use native.Mathlib.Numerals.{add-one}
use Rattle.geometry.specs.Determinant.{at, expand}
use Rattle.geometry.proofs.expand.Goals as goal

pub loop-col-init : goal.loop-col-init
unfolding expand
loop-col-init g c m f n first gives = refl

pub loop-col-preserved : goal.loop-col-preserved
unfolding at expand
loop-col-preserved g c m f n first gives =
    rw (
      add-one,
      first,
      c.loop-col.invariant m f n first gives,
      c.sign_of.ensures,
      zero-add,
      gives c.loop-col.col c.minor.result c.loop-col-test.true c.minor.ensures,
    )
    refl
