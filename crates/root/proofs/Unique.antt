-- No two doubles are both nearest to a root. So `NearestRoot` says all of what `root_of` gives. Assumes nothing.
use Rattle.std.proofs.Common.{◌≡◌, ℕ, ◌+◌, ◌*◌, ◌^◌, ◌<◌, subst, add_comm, arith}
use lib.Ieee.{Float}
use Rattle.floats.specs.Units.{count, Plain}
use Rattle.floats.proofs.Units.{same_count}
use Rattle.root.specs.Root.{root_of, NearestRoot}
use Rattle.root.proofs.Nearest.{nearest}

not-less : (x r y : Float) → NearestRoot x r → NearestRoot x y → count r < count y → ⊥
not-less x r y n o l = clash (4 * (count x * 2 ^ 1074)) ((count r + count y) * (count r + count y)) (n.from_above y o.is_double l)
    (subst (λ (s : ℕ). s * s < 4 * (count x * 2 ^ 1074)) (add_comm (count y) (count r)) (o.from_below r n.is_double l))
  where
    clash : (a b : ℕ) → a < b → b < a → ⊥
    clash a b h k = omega arith

pub unique : (x r y : Float) → NearestRoot x r → NearestRoot x y → r ≡ y
unique x r y n o =
    same_count r y n.is_double o.is_double
    (level (count r) (count y) (not-less x r y n o) (not-less x y r o n))
  where
    level : (a b : ℕ) → (a < b → ⊥) → (b < a → ⊥) → a ≡ b
    level a b h k = omega arith

-- so whatever is nearest to the root of a positive finite x is `root_of x`
pub only : (x r : Float) → Plain x → 0 < count x → NearestRoot x r → r ≡ root_of x
only x r p h n = unique x r (root_of x) n (nearest x p h)
