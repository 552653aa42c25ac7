-- Ten lengths of one bound, and a test of all numbers below n: for what is computed of the bounds of cofactors. Assumes nothing.
use Prim.Native.Nat.{ℕ, zero, suc, ◌≤◌, ◌<◌}
use mathlib.Core.Path.{◌≡◌, sym, subst}
use mathlib.Core.Bool.{Bool, true, ◌&&◌}
use mathlib.Core.List.{List}
use mathlib.Core.Logic.{inl, inr}
use native.Mathlib.Nat.{eq-or-lt_of_le}
use native.Mathlib.Omega.{arith}
use lib.Dec.{T}
use lib.ListN.{get_or}
use lib.Ieee.Fits.{and_l, and_r}
use Rattle.floats.proofs.Bounds.{Bound, bounds}
use Rattle.geometry.specs.Determinant.{table}
use Rattle.geometry.proofs.Tables.{get_or-table}

-- ten lengths of one bound
unfoldable pub ten : Bound → List Bound
ten β = table 10 (λ k. β)

-- each is it
pub ten-at : (β : Bound) (k : ℕ) → k < 10 → get_or (ten β) k bounds.out ≡ β
unfolding ten
ten-at β k l = get_or-table 10 (λ k. β) bounds.out k l

-- p holds below n
unfoldable pub all : (ℕ → Bool) → ℕ → Bool
all p zero = true
all p (suc n) = all p n && p n

-- so it holds of each
pub all-at : (p : ℕ → Bool) (n : ℕ) → T (all p n) → (k : ℕ) → k < n → T (p k)
unfolding all
all-at p zero h k l = absurd (omega arith)
all-at p (suc n) h k l = elim (eq-or-lt_of_le (below k n l)) [
  | inl e ↦ subst (λ (x : ℕ). T (p x)) (sym e) (and_r (all p n) (p n) h)
  | inr m ↦ all-at p n (and_l (all p n) (p n) h) k m
]
  where
    below : (k n : ℕ) → k < suc n → k ≤ n
    below k n l = omega arith
