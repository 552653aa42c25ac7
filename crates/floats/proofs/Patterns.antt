-- Bit patterns of doubles: which are a NaN's, and where the sign stands. Assumes nothing.
use Prim.Native.Nat.{ℕ, zero, suc, ◌+◌, ◌*◌, ◌/◌, ◌%◌, ◌^◌, ◌≤◌, ◌<◌}
use mathlib.Core.Path.{◌≡◌, refl, sym, ap, ◌∙◌, subst}
use mathlib.Core.Bool.{Bool, true, false, not, cond}
use native.Mathlib.Nat.{mod-eq_of_lt}
use native.Mathlib.Omega.{arith}
use lib.Dec.{T, leb, eqb, nleb→lt}
use lib.IntN.{ℤ}
use lib.Ieee.{Float, nan, inf, fin, binary64, up, down, odd, fits, is_nan, ne, neg, of_fields, of_bits, to_bits, nan_bits, ones, hid, top}
use lib.Ieee.Bits.{of_bits-to_bits, nan_bits_is, nan_bits_above}
use borrow.Author.Tests.{eq-eqb, lt-ltb, le-ltb}
use Rattle.std.specs.Float.{float_with_sign, float_signum}
use Rattle.floats.specs.Methods.{abs_of, signed_one, signum_of}

-- ---- NaN

-- only a NaN differs from itself
pub ne-itself : (x : Float) → ne x x ≡ is_nan x
unfolding ne is_nan
ne-itself nan = refl
ne-itself (inf true) = refl
ne-itself (inf false) = refl
ne-itself (fin true m e) = rw (eq-eqb (m * up e * down e) (m * up e * down e) refl) refl
ne-itself (fin false m e) = rw (eq-eqb (m * up e * down e) (m * up e * down e) refl) refl

pub is-nan : (x : Float) → is_nan x ≡ true → x ≡ nan
unfolding is_nan
is-nan nan h = refl
is-nan (inf s) h = absurd (subst (λ (b : Bool). T (not b)) h tt)
is-nan (fin s m e) h = absurd (subst (λ (b : Bool). T (not b)) h tt)

-- a pattern is a NaN's where its magnitude is above the infinity's
pub nan_pattern : (n : ℕ) → 0x7ff0_0000_0000_0000 < n % 2 ^ 63 → of_bits binary64 n ≡ nan
nan_pattern n h = is-nan (of_bits binary64 n) (sym (nan_bits_is binary64 n) ∙ nan_bits_above binary64 n ∙ lt-ltb (ones binary64 * hid binary64) (n % top binary64) h)

pub no-nan_pattern : (n : ℕ) → n % 2 ^ 63 ≤ 0x7ff0_0000_0000_0000 → T (not (nan_bits binary64 n))
no-nan_pattern n h = subst (λ (b : Bool). T (not b)) (sym (nan_bits_above binary64 n ∙ le-ltb (ones binary64 * hid binary64) (n % top binary64) h)) tt

-- below the pattern of the infinity
pub no-nan-below : (n : ℕ) → n < 2047 * 2 ^ 52 → T (not (nan_bits binary64 n))
no-nan-below n h = no-nan_pattern n (omega arith)

-- ---- the sign

-- a sign is set in what a pattern from 2 ^ 63 up is read as, but for a NaN
abbrev Unsigned : Float → Type 0
Unsigned nan = ⊥
Unsigned (inf true) = ⊥
Unsigned (inf false) = Unit {0}
Unsigned (fin true m e) = ⊥
Unsigned (fin false m e) = Unit {0}

no_sign : (x t : ℕ) → Unsigned (of_fields binary64 true x t) → ⊥
unfolding of_fields odd
no_sign zero zero p = p
no_sign zero (suc t) p = p
no_sign (suc x) t p = go (eqb (suc x) 2047) (eqb t 0) (2 ^ 52 + t) p
  where
    go : (b c : Bool) (q : ℕ) → Unsigned (cond b (cond c (inf true) nan) (odd 53 true q x 1074)) → ⊥
    go true true q p = p
    go true false q p = p
    go false c zero p = p
    go false c (suc q) p = p

by-fields : (b : ℕ) → Unsigned (of_bits binary64 b) → Unsigned (of_fields binary64 (leb (2 ^ 63) b) (b % 2 ^ 63 / 2 ^ 52) (b % 2 ^ 52))
unfolding of_bits
by-fields b p = p

below-sign : (b : ℕ) → Unsigned (of_bits binary64 b) → b < 2 ^ 63
below-sign b p = go (leb (2 ^ 63) b) (nleb→lt (2 ^ 63) b) (by-fields b p)
  where
    go : (s : Bool) → (T (not s) → b < 2 ^ 63) → Unsigned (of_fields binary64 s (b % 2 ^ 63 / 2 ^ 52) (b % 2 ^ 52)) → b < 2 ^ 63
    go true k p = absurd (no_sign (b % 2 ^ 63 / 2 ^ 52) (b % 2 ^ 52) p)
    go false k p = k tt

-- the pattern of a double whose sign is clear
pub unsigned-below : (m : ℕ) (e : ℤ) → T (fits binary64 (fin false m e)) → to_bits binary64 (fin false m e) < 2 ^ 63
unsigned-below m e h = below-sign (to_bits binary64 (fin false m e)) (subst Unsigned (sym (of_bits-to_bits binary64 (fin false m e) h)) (tt))

-- a sign adds 2 ^ 63 to the pattern, and changes nothing of what fits
sign-adds : (m : ℕ) (e : ℤ) → to_bits binary64 (fin true m e) ≡ 2 ^ 63 + to_bits binary64 (fin false m e)
unfolding to_bits
sign-adds m e = omega arith

fits-unsigned : (s : Bool) (m : ℕ) (e : ℤ) → T (fits binary64 (fin s m e)) → T (fits binary64 (fin false m e))
unfolding fits
fits-unsigned s zero e h = h
fits-unsigned s (suc m) e h = h

pub abs_pattern : (x : Float) → T (fits binary64 x) → of_bits binary64 (to_bits binary64 x % 2 ^ 63) ≡ abs_of x
unfolding abs_of to_bits of_bits
abs_pattern nan h = refl
abs_pattern (inf true) h = refl
abs_pattern (inf false) h = refl
abs_pattern (fin false m e) h = ap (of_bits binary64) (mod-eq_of_lt (unsigned-below m e h)) ∙ of_bits-to_bits binary64 (fin false m e) h
abs_pattern (fin true m e) h =
    let u : T (fits binary64 (fin false m e)) = fits-unsigned true m e h in
    ap (of_bits binary64) (dropped (to_bits binary64 (fin true m e)) (to_bits binary64 (fin false m e)) (sign-adds m e) (unsigned-below m e u))
    ∙ of_bits-to_bits binary64 (fin false m e) u
  where
    dropped : (b t : ℕ) → b ≡ 2 ^ 63 + t → t < 2 ^ 63 → b % 2 ^ 63 ≡ t
    dropped b t e h = omega arith

-- the sign of a double that is no NaN, by its pattern
pub signum-clear : (x : Float) → is_nan x ≡ false → to_bits binary64 x < 2 ^ 63 → signed_one false ≡ signum_of x
unfolding is_nan signum_of to_bits
signum-clear nan n h = absurd (subst T n tt)
signum-clear (inf true) n h = absurd (omega arith)
signum-clear (inf false) n h = refl
signum-clear (fin true m e) n h = absurd (omega (arith, sign-adds m e))
signum-clear (fin false m e) n h = refl

pub signum-set : (x : Float) → T (fits binary64 x) → is_nan x ≡ false → 2 ^ 63 ≤ to_bits binary64 x → signed_one true ≡ signum_of x
unfolding is_nan signum_of to_bits
signum-set nan f n h = absurd (subst T n tt)
signum-set (inf true) f n h = refl
signum-set (inf false) f n h = absurd (omega arith)
signum-set (fin true m e) f n h = refl
signum-set (fin false m e) f n h = absurd (omega (arith, unsigned-below m e f))

-- ---- the library's methods

pub abs_is : (x : Float) → float_with_sign false x ≡ abs_of x
unfolding float_with_sign abs_of
abs_is nan = refl
abs_is (inf s) = refl
abs_is (fin s m e) = refl

pub signum_is : (x : Float) → float_signum x ≡ signum_of x
unfolding float_signum signum_of of_bits neg
signum_is nan = refl
signum_is (inf true) = refl
signum_is (inf false) = refl
signum_is (fin true m e) = refl
signum_is (fin false m e) = refl
