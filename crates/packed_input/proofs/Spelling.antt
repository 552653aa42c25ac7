-- Numbers spelled by bits: their size. Assumes nothing.
use Prim.Native.Nat.{ℕ, zero, suc, ◌+◌, ◌*◌, ◌^◌, ◌<◌}
use mathlib.Core.List.{List}
use mathlib.Core.Path.{◌≡◌}
use native.Mathlib.Numerals.{add-one}
use native.Mathlib.Omega.{arith}
use lib.Pow.{pow_mono}
use Rattle.packed_input.specs.Format.{bit_at, field}

-- a bit is 0 or 1
pub bit-small : (input : List ℕ) (k : ℕ) → bit_at input k < 2
unfolding bit_at
bit-small input k = omega arith

-- a number of w bits is below 2 to the power w
pub field-small : (input : List ℕ) (at w : ℕ) → field input at w < 2 ^ w
unfolding field
field-small input at zero = omega arith
field-small input at (suc w) = omega (arith, field-small input at w, bit-small input (at + w))

-- a number of fewer than 64 bits, doubled, has room for one more bit
pub field-half : (input : List ℕ) (at i : ℕ) → i < 64 → field input at i < 0x8000_0000_0000_0000
field-half input at i h = omega (arith, field-small input at i, pow_mono {i = i} {j = 63} (omega arith))

-- the next bit
pub field_next : (input : List ℕ) (at i n b : ℕ) → n ≡ field input at i → b ≡ bit_at input (at + i) → 2 * n + b ≡ field input at (i + 1)
unfolding field
field_next input at i n b e f = rw (e, f, add-one i)
