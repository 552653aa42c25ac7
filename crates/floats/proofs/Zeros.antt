-- Zero times a finite double, and the sum from zero of such a product. Assumes nothing.
use Prim.Native.Nat.{ℕ, ◌*◌, ◌<◌}
use mathlib.Core.Path.{◌≡◌, refl, ap, ◌∙◌}
use mathlib.Core.Bool.{Bool, true, false}
use native.Mathlib.Nat.{mul-pos, zero-mul}
use native.Mathlib.Omega.{arith}
use lib.IntN.{pos}
use lib.Ieee.{Float, nan, inf, fin, binary64, of_bits, up, down, unlike, round, sum, add, mul}
use lib.Ieee.Fits.{down_pos}
use lib.Ieee.Scale.{round_same}
use Rattle.floats.specs.Ops.{zero}
use Rattle.floats.proofs.Magnitude.{Mag}

-- nothing rounds to a zero of its sign
round-none : (s : Bool) (den : ℕ) → 0 < den → round binary64 s 0 den ≡ fin s 0 (pos 0)
unfolding round
round-none s den dp = round_same binary64 s 0 den 0 1 dp (omega arith) (omega arith) ∙ refl

-- zero and a zero of either sign are zero
zero-sum : (s : Bool) → add binary64 zero (fin s 0 (pos 0)) ≡ zero
unfolding add sum of_bits
zero-sum true = refl
zero-sum false = refl

-- zero times a finite double adds nothing to zero
pub zero-term : (x : Float) (k : ℕ) → Mag x k → add binary64 zero (mul binary64 zero x) ≡ zero
unfolding mul of_bits
zero-term nan k h = absurd h
zero-term (inf s) k h = absurd h
zero-term (fin t n d) k h =
    ap (λ (y : Float). add binary64 zero y) (ap (λ (z : ℕ). round binary64 (unlike false t) z (down (pos 0) * down d)) (zero-mul (n * up d)) ∙ round-none (unlike false t) _ (mul-pos (down_pos (pos 0)) (down_pos d))) ∙ zero-sum (unlike false t)
