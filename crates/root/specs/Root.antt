-- The square root of a double, rounded to nearest. Definitions only.
-- `NearestRoot` says without digits what `root_of` gives; the theorems `nearest` and `only` of the proofs tie the two together.
use Rattle.std.specs.Prelude.{ℕ, zero, suc, ◌+◌, ◌-◌, ◌*◌, ◌/◌, ◌^◌, ◌<◌, true, false, cond, from_bits, nat_le, Float}
use Rattle.std.specs.Float.{nan, inf, fin, binary64}
use Rattle.std.specs.Float.Ieee.{size}
use Rattle.floats.specs.Units.{count, Plain}

-- the whole part of √n for an n below 4 ^ d, a binary digit at a time: twice the root of n / 4, or one more where the square of that is within n
unfoldable pub floor_root : ℕ → ℕ → ℕ
floor_root zero n = 0
floor_root (suc d) n = let r = 2 * floor_root d (n / 4) in cond (nat_le ((r + 1) * (r + 1)) n) (r + 1) r

-- the bit pattern of the double nearest to √n units, for an n of 107 binary digits or more:
-- n / 4 ^ k has 107 or 108 digits, so its root has 54, the 53 that a double keeps and one by which it is rounded
unfoldable pub root_bits : ℕ → ℕ
root_bits n =
    let k = (size n - 107) / 2 in
    (k + 1) * 2 ^ 52 + (floor_root 54 (n / 4 ^ k) + 1) / 2

-- the square root: NaN for NaN and below zero; +0, -0 and +infinity stay; a positive x is `count x` units, so its root is √(count x * 2 ^ 1074) units
unfoldable pub root_of : Float → Float
root_of nan = nan
root_of (inf true) = nan
root_of (inf false) = inf false
root_of (fin s zero e) = fin s zero e
root_of (fin true (suc m) e) = nan
root_of (fin false (suc m) e) = from_bits binary64 (root_bits (count (fin false (suc m) e) * 2 ^ 1074))

-- r is the double nearest to √x: √x is below the middle of r and any double y above r, and above the middle of r and any y below r.
-- All are counted in units, and both sides are squared and times 4.
pub record NearestRoot (x r : Float) : Type 0 where
  pub is_double : Plain r
  pub from_above : (y : Float) → Plain y → count r < count y → 4 * (count x * 2 ^ 1074) < (count r + count y) * (count r + count y)
  pub from_below : (y : Float) → Plain y → count y < count r → (count r + count y) * (count r + count y) < 4 * (count x * 2 ^ 1074)
