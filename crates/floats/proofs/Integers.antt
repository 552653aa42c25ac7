-- Doubles that are integers: `IsInt` and `IsRatio` from values and back, the double of an integer, and exact sums, differences and products. Assumes nothing.
use Prim.Native.Nat.{ℕ, zero, suc, ◌+◌, ◌*◌, ◌^◌, ◌≤◌, ◌<◌}
use mathlib.Core.Path.{◌≡◌, refl, sym, ap, ◌∙◌, subst}
use mathlib.Core.Bool.{Bool, true, false, cond}
use native.Mathlib.Nat.{le_trans, le_of_eq, le_refl, le_of_lt, mul-one, mul-le-mul_right}
use lib.Dec.{ltb}
use lib.IntN.{ℤ, pos, negsuc, nat_abs, ◌+ℤ◌, ◌-ℤ◌, ◌*ℤ◌}
use lib.Ieee.{Float, nan, inf, fin, Format, binary64, up, down, prec, emax, low, size, odd, units, round, neg, add, sub, mul, of_int}
use lib.Ieee.Back.{round_whole}
use lib.Ieee.Digits.{size-lt}
use lib.Ieee.Fits.{down_pos, round_is}
use lib.Ieee.Exact.{HasValue}
use Rattle.floats.specs.Whole.{signed, IsRatio, IsInt}
use Rattle.floats.proofs.Signs.{abs-signed, abs-times, signed-times, sign-of-multiple}
use Rattle.floats.proofs.Magnitude.{Mag}
use Rattle.floats.proofs.Exact.{Exactly, add-exactly, sub-exactly, mul-exactly}

-- ---- values and ratios

pub value→ratio : (x : Float) (s : Bool) (a c : ℕ) → HasValue x s a c → IsRatio x (signed s a) c
value→ratio nan s a c h = absurd h
value→ratio (inf t) s a c h = absurd h
value→ratio (fin t m e) s a c h = subst (λ (u : Bool). signed t (m * up e * c) ≡ signed u a *ℤ pos (down e)) h.0 (ap (signed t) h.1 ∙ signed-times t a (down e))

size-of-int : (s : Bool) (m : ℕ) (e : ℤ) (z : ℤ) → IsInt (fin s m e) z → m * up e * 1 ≡ nat_abs z * down e
size-of-int s m e z h = sym (abs-signed s (m * up e * 1)) ∙ ap nat_abs h ∙ abs-times z (down e)

pub int→exactly : (x : Float) (z : ℤ) (b : ℕ) → IsInt x z → nat_abs z ≤ b → Exactly x z b
int→exactly nan z b h l = absurd h
int→exactly (inf s) z b h l = absurd h
int→exactly (fin s m e) z b h l =
    let size = size-of-int s m e z h in
    record { s = s; a = nat_abs z; val = (refl, size); is = sign-of-multiple s (m * up e * 1) z (down e) (down_pos e) size h; le = l }

pub exactly→int : (x : Float) (z : ℤ) (b : ℕ) → Exactly x z b → IsInt x z
exactly→int x z b h = subst (λ (w : ℤ). IsInt x w) h.is (value→ratio x h.s h.a 1 h.val)

pub int→mag : (x : Float) (z : ℤ) (k : ℕ) → IsInt x z → nat_abs z ≤ 2 ^ k → Mag x k
int→mag nan z k h l = absurd h
int→mag (inf s) z k h l = absurd h
int→mag (fin s m e) z k h l = le_trans (le_of_eq (sym (mul-one (m * up e)) ∙ size-of-int s m e z h)) (mul-le-mul_right (down e) l)

-- ---- exact sums, differences and products

module _ (x y : Float) (z w : ℤ) (p : IsInt x z) (q : IsInt y w) where
  left : Exactly x z (nat_abs z)
  left = int→exactly x z (nat_abs z) p (le_refl (nat_abs z))

  right : Exactly y w (nat_abs w)
  right = int→exactly y w (nat_abs w) q (le_refl (nat_abs w))

  pub add-int : nat_abs z + nat_abs w < 2 ^ 53 → IsInt (add binary64 x y) (z +ℤ w)
  add-int h = exactly→int (add binary64 x y) (z +ℤ w) (nat_abs z + nat_abs w) (add-exactly x y z w (nat_abs z) (nat_abs w) h left right)

  pub sub-int : nat_abs z + nat_abs w < 2 ^ 53 → IsInt (sub binary64 x y) (z -ℤ w)
  sub-int h = exactly→int (sub binary64 x y) (z -ℤ w) (nat_abs z + nat_abs w) (sub-exactly x y z w (nat_abs z) (nat_abs w) h left right)

  pub mul-int : nat_abs z * nat_abs w < 2 ^ 53 → IsInt (mul binary64 x y) (z *ℤ w)
  mul-int h =
      exactly→int (mul binary64 x y) (z *ℤ w) (nat_abs z * nat_abs w)
      (mul-exactly x y z w (nat_abs z) (nat_abs w) (size (nat_abs z)) (size (nat_abs w)) h
      (int→mag x z (size (nat_abs z)) p (le_of_lt (size-lt (nat_abs z))))
      (int→mag y w (size (nat_abs w)) q (le_of_lt (size-lt (nat_abs w))))
      (λ _. left)
      (λ _. right))

-- ---- the double of an integer

pub of_int-int : (z : ℤ) → nat_abs z ≤ 2 ^ 53 → IsInt (of_int binary64 z) z
unfolding of_int
of_int-int (pos n) h = value→ratio (round binary64 false n 1) false n 1 (round_whole binary64 false n h)
of_int-int (negsuc n) h = value→ratio (round binary64 true (suc n) 1) true (suc n) 1 (round_whole binary64 true (suc n) h)

neg-odd : (d q k l : ℕ) → neg (odd d false q k l) ≡ odd d true q k l
unfolding neg odd
neg-odd d zero k l = refl
neg-odd d (suc q) k l = refl

neg-units : (f : Format) (q k : ℕ) → neg (units f false q k) ≡ units f true q k
unfolding units neg
neg-units f q k = go (ltb (q * 2 ^ k) (2 ^ (low f + suc (emax f))))
  where
    go : (b : Bool) → neg (cond b (odd (suc (prec f)) false q k (low f)) (inf false)) ≡ cond b (odd (suc (prec f)) true q k (low f)) (inf true)
    go true = neg-odd (suc (prec f)) q k (low f)
    go false = refl

-- the other sign rounds to the same size
pub neg-round : (f : Format) (num den : ℕ) → neg (round f false num den) ≡ round f true num den
neg-round f num den = ap neg (round_is f false num den) ∙ neg-units f _ _ ∙ sym (round_is f true num den)

-- a negative integer's double is that of its size, negated
pub neg-of_int : (f : Format) (n : ℕ) → neg (of_int f (pos (suc n))) ≡ of_int f (negsuc n)
unfolding of_int
neg-of_int f n = neg-round f (suc n) 1
