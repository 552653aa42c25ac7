-- What `HasValue` says, over another denominator, and of a fraction that is rounded: a whole number below 2 ^ 53 is kept. Assumes nothing.
use Prim.Native.Nat.{ℕ, ◌*◌, ◌^◌, ◌<◌}
use mathlib.Core.Path.{◌≡◌, sym, ap, ◌∙◌}
use mathlib.Core.Bool.{Bool}
use native.Mathlib.Nat.{lt_of_lt_of_le, mul_assoc, one-mul, mul_right_comm, mul-lt-mul_of_pos_right, eq_of_mul-eq-mul_right}
use lib.Dec.{lit≤}
use lib.Pow.{pow_pos}
use lib.Ieee.{Float, nan, inf, fin, binary64, up, down, round}
use lib.Ieee.Exact.{HasValue, round_exact}

-- n / w is a / c, where both are d times as large
pub rescale : (x : Float) (s : Bool) (n w a c d : ℕ) → 0 < d → n ≡ a * d → w ≡ c * d → HasValue x s n w → HasValue x s a c
rescale nan s n w a c d dp h k v = v
rescale (inf t) s n w a c d dp h k v = v
rescale (fin t m e) s n w a c d dp h k v = (
  v.0,
  eq_of_mul-eq-mul_right d dp (m * up e * c) (a * down e)
      (mul_assoc (m * up e) c d ∙ ap (λ (x : ℕ). m * up e * x) (sym k) ∙ v.1 ∙ ap (λ (x : ℕ). x * down e) h ∙ mul_right_comm a d (down e)),
)

pub round-int : (s : Bool) (num den a : ℕ) → 0 < den → num ≡ a * den → a < 2 ^ 53 → HasValue (round binary64 s num den) s a 1
round-int s num den a dp h small =
    rescale (round binary64 s num den) s num den a 1 den dp h (sym (one-mul den))
    (round_exact binary64 s num den a 1074 dp small (lt_of_lt_of_le (mul-lt-mul_of_pos_right small (pow_pos 1074)) (lit≤ tt))
    (ap (λ (x : ℕ). x * 2 ^ 1074) h ∙ mul_right_comm a den (2 ^ 1074)))
