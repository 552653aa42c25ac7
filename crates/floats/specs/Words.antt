-- The two 32-bit words of a double's bit pattern. Definitions only.
use Rattle.std.specs.Prelude.{ℕ, ◌+◌, ◌*◌, ◌/◌, ◌%◌, Float}
use Rattle.std.specs.Float.{binary64}
use Rattle.std.specs.Float.Ieee.{to_bits}
use Rattle.floats.specs.Ops.{dbl}

-- the upper word
unfoldable pub high_word : Float → ℕ
high_word x = to_bits binary64 x / 0x1_0000_0000

-- the lower word
unfoldable pub low_word : Float → ℕ
low_word x = to_bits binary64 x % 0x1_0000_0000

-- the double of an upper and a lower word
unfoldable pub of_words : ℕ → ℕ → Float
of_words high low = dbl (high * 0x1_0000_0000 + low)
