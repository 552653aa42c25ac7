-- What a polynomial is worked out with, so that one definition serves doubles, integers and bounds. Definitions only.
use Rattle.std.specs.Float.Ieee as Ieee
use Rattle.std.specs.Prelude.{Float, ℤ, pos, negsuc, ◌+ℤ◌, ◌-ℤ◌, ◌*ℤ◌}
use Rattle.std.specs.Float.{binary64}
use Rattle.floats.specs.Ops as Ops

-- 0, 1, -1 and three operations; `out` is what a list has past its end
pub record Algebra (A : Type 0) : Type 0 where
  pub out : A
  pub zero : A
  pub one : A
  pub minus_one : A
  pub add : A → A → A
  pub sub : A → A → A
  pub mul : A → A → A

-- 0.0, 1.0, -1.0 and the operators of f64
abbrev pub doubles : Algebra Float
doubles = record {
  out = Ieee.nan;
  zero = Ops.zero;
  one = Ops.one;
  minus_one = Ieee.neg Ops.one;
  add = Ieee.add binary64;
  sub = Ieee.sub binary64;
  mul = Ieee.mul binary64;
}

-- the integers
abbrev pub integers : Algebra ℤ
integers = record {
  out = pos 0;
  zero = pos 0;
  one = pos 1;
  minus_one = negsuc 0;
  add = ◌+ℤ◌;
  sub = ◌-ℤ◌;
  mul = ◌*ℤ◌;
}
