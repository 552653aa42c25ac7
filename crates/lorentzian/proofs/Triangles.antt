-- What three vertices of a triangle are. Assumes nothing.
use Prim.Native.Nat.{ℕ, ◌<◌}
use mathlib.Core.Path.{◌≡◌, refl}
use mathlib.Core.Bool.{Bool, true, false, ◌||◌}
use mathlib.Core.Logic.{◌≢◌}
use native.Mathlib.Omega.{arith}
use lib.Dec.{ltb, eqb}
use borrow.Author.Tests.{ltb-false, eqb-false}
use Rattle.lorentzian.specs.Triangle.{no_triangle}

or-false : (x y : Bool) → (x || y) ≡ false → (x ≡ false) × (y ≡ false)
or-false false y h = (refl, h)
or-false true y h = (h, cc)

-- three different vertices of five
pub record Separate (a b c : ℕ) : Type 0 where
  pub a<5 : a < 5
  pub b<5 : b < 5
  pub c<5 : c < 5
  pub a≢b : a ≢ b
  pub a≢c : a ≢ c
  pub b≢c : b ≢ c

pub separate : (a b c : ℕ) → no_triangle a b c ≡ false → Separate a b c
unfolding no_triangle
separate a b c h =
    let p = or-false (ltb 4 a) _ h in
    let q = or-false (ltb 4 b) _ p.1 in
    let r = or-false (ltb 4 c) _ q.1 in
    let s = or-false (eqb a b) _ r.1 in
    let t = or-false (eqb a c) (eqb b c) s.1 in
    record {
      a<5 = omega (arith, ltb-false 4 a p.0);
      b<5 = omega (arith, ltb-false 4 b q.0);
      c<5 = omega (arith, ltb-false 4 c r.0);
      a≢b = eqb-false a b s.0;
      a≢c = eqb-false a c t.0;
      b≢c = eqb-false b c t.1;
    }
