-- Sums and products of integers that are given by a sign and a size. Assumes nothing.
use Prim.Native.Nat.{ℕ, zero, suc, ◌+◌, ◌-◌, ◌*◌, ◌≤◌, ◌<◌}
use mathlib.Core.Path.{◌≡◌, refl, sym, ap, ◌∙◌, subst}
use mathlib.Core.Bool.{Bool, true, false, not}
use native.Mathlib.Nat.{mul-zero, zero-mul, mul-pos, lt_irrefl, zero-lt-suc, eq_of_mul-eq-mul_right}
use native.Mathlib.Omega.{arith}
use lib.IntN.{ℤ, pos, negsuc, neg_ℤ, nat_abs, ◌+ℤ◌, ◌*ℤ◌, neg_ℤ-neg_ℤ, neg_ℤ-+ℤ, +ℤ_comm, pos-ne-negsuc}
use lib.Ieee.{unlike}
use borrow.Author.Tests.{lt-ltb, le-ltb}
use Rattle.floats.specs.Whole.{signed}

pub signed-not : (s : Bool) (a : ℕ) → signed (not s) a ≡ neg_ℤ (signed s a)
signed-not false a = refl
signed-not true a = sym (neg_ℤ-neg_ℤ (pos a))

pub signed-zero : (s : Bool) → signed s 0 ≡ pos 0
signed-zero false = refl
signed-zero true = refl

pub signed_mul : (s t : Bool) (a b : ℕ) → signed (unlike s t) (a * b) ≡ signed s a *ℤ signed t b
signed_mul false false a b = refl
signed_mul false true a zero = ap (λ (x : ℕ). neg_ℤ (pos x)) (mul-zero a) ∙ ap pos (sym (mul-zero a))
signed_mul false true a (suc b) = refl
signed_mul true false zero b = ap (λ (x : ℕ). neg_ℤ (pos x)) (zero-mul b) ∙ ap pos (sym (zero-mul b))
signed_mul true false (suc a) b = refl
signed_mul true true zero zero = refl
signed_mul true true zero (suc b) = ap pos (zero-mul (suc b)) ∙ ap (λ (x : ℕ). neg_ℤ (pos x)) (sym (zero-mul (suc b)))
signed_mul true true (suc a) zero = ap pos (mul-zero (suc a)) ∙ ap (λ (x : ℕ). neg_ℤ (pos x)) (sym (mul-zero (suc a)))
signed_mul true true (suc a) (suc b) = refl

pub signed_add : (s : Bool) (a b : ℕ) → signed s (a + b) ≡ signed s a +ℤ signed s b
signed_add false a b = refl
signed_add true a b = neg_ℤ-+ℤ (pos a) (pos b)

-- a - b, where it is not negative, and where it is
pub down_to : (a b : ℕ) → b ≤ a → pos (a - b) ≡ pos a +ℤ neg_ℤ (pos b)
down_to a zero h = ap pos (omega arith)
down_to a (suc b) h = rw (le-ltb a (suc b) h) refl

pub below-zero : (a b : ℕ) → a < b → neg_ℤ (pos (b - a)) ≡ pos a +ℤ neg_ℤ (pos b)
below-zero a zero h = absurd (omega arith)
below-zero a (suc b) h = rw (lt-ltb a (suc b) h) (ap (λ (x : ℕ). neg_ℤ (pos x)) (one_more a b h))
  where
    one_more : (a b : ℕ) → a < suc b → suc b - a ≡ suc (suc b - suc a)
    one_more a b h = omega arith

pub flip : (a b : ℕ) (z : ℤ) → z ≡ pos b +ℤ neg_ℤ (pos a) → z ≡ neg_ℤ (pos a) +ℤ pos b
flip a b z e = e ∙ +ℤ_comm (pos b) (neg_ℤ (pos a))

-- ---- the size of an integer, and its sign

pub abs-signed : (s : Bool) (n : ℕ) → nat_abs (signed s n) ≡ n
abs-signed false n = refl
abs-signed true zero = refl
abs-signed true (suc n) = refl

pub abs-times : (z : ℤ) (d : ℕ) → nat_abs (z *ℤ pos d) ≡ nat_abs z * d
abs-times (pos n) d = refl
abs-times (negsuc n) d = abs-signed true (suc n * d)

pub unlike_false : (s : Bool) → unlike s false ≡ s
unlike_false true = refl
unlike_false false = refl

pub signed-times : (s : Bool) (a d : ℕ) → signed s (a * d) ≡ signed s a *ℤ pos d
signed-times s a d = ap (λ (u : Bool). signed u (a * d)) (sym (unlike_false s)) ∙ signed_mul s false a d

neg-pos : (n x : ℕ) → pos n ≡ neg_ℤ (pos x) → x ≡ 0
neg-pos n zero h = refl
neg-pos n (suc x) h = absurd (pos-ne-negsuc n x h)

no-product : (n d : ℕ) → 0 < d → suc n * d ≡ 0 → ⊥
no-product n d h e = lt_irrefl 0 (subst (λ (x : ℕ). 0 < x) e (mul-pos (zero-lt-suc n) h))

-- a multiple of z has z's sign
pub sign-of-multiple : (s : Bool) (m : ℕ) (z : ℤ) (d : ℕ) → 0 < d → m ≡ nat_abs z * d → signed s m ≡ z *ℤ pos d → signed s (nat_abs z) ≡ z
sign-of-multiple false m (pos n) d dp e h = refl
sign-of-multiple false m (negsuc n) d dp e h = absurd (no-product n d dp (neg-pos m (suc n * d) h))
sign-of-multiple true m (pos n) d dp e h =
    let n0 : n ≡ 0 = eq_of_mul-eq-mul_right d dp n 0 (sym e ∙ neg-pos (n * d) m (sym h) ∙ sym (zero-mul d)) in
    subst (λ (x : ℕ). neg_ℤ (pos x) ≡ pos x) (sym n0) refl
sign-of-multiple true m (negsuc n) d dp e h = refl
