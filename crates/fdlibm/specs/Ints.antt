-- C's int, held as the 32-bit word that it is: its order, its `|`, and its double. Definitions only.
use Rattle.std.specs.Prelude.{ℕ, ◌+◌, ◌%◌, Bool, ◌&&◌, ◌==◌, nat_le, nat_lt, Float}
use Rattle.std.specs.Float.{binary64}
use Rattle.std.specs.Float.Ieee.{of_int, minus}
use Rattle.floats.specs.Words.{high_word}

infix 40 ◌<ˢ◌
infix 40 ◌≤ˢ◌
-- an int, given as a word, moved up by 2 ^ 31, so that none is negative
abbrev pub biased : ℕ → ℕ
biased a = (a + 0x8000_0000) % 0x1_0000_0000

-- a < b on ints
unfoldable pub ◌<ˢ◌ : ℕ → ℕ → Bool
◌<ˢ◌ a b = nat_lt (biased a) (biased b)

-- a <= b on ints
unfoldable pub ◌≤ˢ◌ : ℕ → ℕ → Bool
◌≤ˢ◌ a b = nat_le (biased a) (biased b)

-- ((high-h)|low)==0
unfoldable pub words_are : ℕ → ℕ → ℕ → Bool
words_are high low h = high == h && low == 0

-- ix, the high word of x without its sign: hx&0x7fffffff
abbrev pub ix_of : Float → ℕ
ix_of x = high_word x % 0x8000_0000

-- (double)k, for the k that is held as K = k + 1077, which is never negative
unfoldable pub dk : ℕ → Float
dk K = of_int binary64 (minus K 1077)

-- k==0
abbrev pub none : ℕ → Bool
none K = K == 1077
