-- `floats::bits_of` meets its contract. Assumes nothing.
use mathlib.Core.Path.{◌≡◌, refl, sym, subst, ◌∙◌}
use lib.Ieee.{Float, binary64, to_bits}
use Rattle.floats.proofs.Patterns.{is-nan}
use Rattle.floats.proofs.bits_of.Goals as goal

pub returns-then-is_nan : goal.returns-then-is_nan
unfolding to_bits
returns-then-is_nan c = subst (λ (x : Float). 0x7ff8_0000_0000_0000 ≡ to_bits binary64 x) (sym (is-nan _ (sym c.is_nan.ensures.value ∙ c.if-is_nan.true))) refl
