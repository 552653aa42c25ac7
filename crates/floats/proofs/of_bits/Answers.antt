-- `floats::of_bits` meets its contract. Assumes nothing.
use mathlib.Core.Path.{sym}
use lib.Ieee.{of_bits}
use Rattle.floats.proofs.Patterns.{nan_pattern, no-nan_pattern}
use Rattle.floats.proofs.of_bits.Goals as goal

pub returns-then-n-gt-INFINITY : goal.returns-then-n-gt-INFINITY
unfolding of_bits
returns-then-n-gt-INFINITY c = sym (nan_pattern _ c.if-n-gt-INFINITY.true)

pub float_from_bits-result : goal.float_from_bits-result
float_from_bits-result c = no-nan_pattern _ c.if-n-gt-INFINITY.false
