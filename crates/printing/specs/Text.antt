-- A double as text. Definitions only.
use Rattle.std.specs.Prelude.{ℕ, cond, List, [], ◌∷◌, Float}
use Rattle.std.specs.Float.{binary64}
use Rattle.std.specs.Float.Ieee.{is_nan, to_bits}
use Rattle.io.specs.Digits.{last_digits}

-- the 16 digits of x's bit pattern, or nan
unfoldable pub text_of : Float → List ℕ
text_of x = cond (is_nan x) (110 ∷ 97 ∷ 110 ∷ []) (last_digits 16 16 (to_bits binary64 x))
