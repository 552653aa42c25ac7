-- Rust's f64::abs, f64::signum and f64::clamp(-1.0, 1.0), at every double. Definitions only.
use Rattle.std.specs.Prelude.{Bool, false, cond, Float}
use Rattle.std.specs.Float.{nan, inf, fin}
use Rattle.std.specs.Float.Ieee.{neg, lt}
use Rattle.floats.specs.Ops.{one}

-- the sign cleared
unfoldable pub abs_of : Float → Float
abs_of nan = nan
abs_of (inf s) = inf false
abs_of (fin s m e) = fin false m e

-- 1.0 with the sign s
abbrev pub signed_one : Bool → Float
signed_one s = cond s (neg one) one

-- 1.0 with the sign of x, that of a zero too; NaN for NaN
unfoldable pub signum_of : Float → Float
signum_of nan = nan
signum_of (inf s) = signed_one s
signum_of (fin s m e) = signed_one s

-- x between -1.0 and 1.0; NaN stays
unfoldable pub clamp_unit_of : Float → Float
clamp_unit_of x = cond (lt x (neg one)) (neg one) (cond (lt one x) one x)
