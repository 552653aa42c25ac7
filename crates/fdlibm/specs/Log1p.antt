-- fdlibm 5.3's s_log1p.c: `log1p_of`, cut where the C's branches meet; C's k is held as K = k + 1077. Definitions only.
use Rattle.std.specs.Prelude.{ℕ, ◌+◌, ◌-◌, ◌/◌, ◌%◌, cond, ◌&&◌, ◌||◌, ◌==◌, nat_le, nat_lt, Float}
use Rattle.std.specs.Float.Ieee.{neg, eq, lt}
use Rattle.floats.specs.Ops.{◌⊕◌, ◌⊖◌, ◌⊗◌, ◌⊘◌, dbl, zero, half, one, two}
use Rattle.floats.specs.Words.{high_word, low_word, of_words}
use Rattle.fdlibm.specs.Ints.{◌<ˢ◌, ◌≤ˢ◌, ix_of, dk, none}
use Rattle.fdlibm.specs.Log.{ln2_hi, ln2_lo, two54, Lg1, Lg2, Lg3, Lg4, Lg5, Lg6, Lg7}

-- ---- the constants of the file: ln2_hi, ln2_lo and two54 are those of e_log.c, and Lp1 .. Lp7 are its Lg1 .. Lg7

-- 0.66666666666666666
abbrev two_thirds : Float
two_thirds = dbl 0x3fe5_5555_5555_5555

-- ---- the logarithm of 1 + x

-- from `hfsq=0.5*f*f` on
unfoldable pub log1p_tail : ℕ → ℕ → Float → Float → Float
log1p_tail K hu f c =
    let hfsq = half ⊗ f ⊗ f in
    cond (hu == 0)
    (cond (eq f zero)
    (cond (none K) zero (dk K ⊗ ln2_hi ⊕ (c ⊕ dk K ⊗ ln2_lo)))
    (let R = hfsq ⊗ (one ⊖ two_thirds ⊗ f) in
    cond (none K) (f ⊖ R) (dk K ⊗ ln2_hi ⊖ (R ⊖ (dk K ⊗ ln2_lo ⊕ c) ⊖ f))))
    (let s = f ⊘ (two ⊕ f) in
    let z = s ⊗ s in
    let R = z ⊗ (Lg1 ⊕ z ⊗ (Lg2 ⊕ z ⊗ (Lg3 ⊕ z ⊗ (Lg4 ⊕ z ⊗ (Lg5 ⊕ z ⊗ (Lg6 ⊕ z ⊗ Lg7)))))) in
    cond (none K) (f ⊖ (hfsq ⊖ s ⊗ (hfsq ⊕ R))) (dk K ⊗ ln2_hi ⊖ (hfsq ⊖ (s ⊗ (hfsq ⊕ R) ⊕ (dk K ⊗ ln2_lo ⊕ c)) ⊖ f)))

-- from `hu &= 0x000fffff` on, with k = (hu>>20)-1023
unfoldable pub log1p_scaled : Float → Float → Float
log1p_scaled u c =
    let K = 54 + high_word u / 0x10_0000 in
    let hu = high_word u % 0x10_0000 in
    cond (nat_lt hu 0x6_a09e)
    (log1p_tail K hu (of_words (hu + 0x3ff0_0000) (low_word u) ⊖ one) c)
    (log1p_tail (K + 1) ((0x10_0000 - hu) / 4) (of_words (hu + 0x3fe0_0000) (low_word u) ⊖ one) c)

-- where hx < 0x43400000: u = 1+x with its correction term; k > 0 is (hu>>20) > 1023
unfoldable pub log1p_sum : Float → Float
log1p_sum x =
    let u = one ⊕ x in
    log1p_scaled u (cond (nat_lt 1023 (high_word u / 0x10_0000)) (one ⊖ (u ⊖ x)) (x ⊖ (u ⊖ one)) ⊘ u)

-- from `if (hx >= 0x7ff00000)` on, where k is not 0
unfoldable pub log1p_wide : Float → Float
log1p_wide x =
    cond (0x7ff0_0000 ≤ˢ high_word x) (x ⊕ x)
    (cond (high_word x <ˢ 0x4340_0000) (log1p_sum x) (log1p_scaled x zero))

-- the logarithm of 1 + x
unfoldable pub log1p_of : Float → Float
log1p_of x =
    let ax = ix_of x in
    cond (high_word x <ˢ 0x3fda_827a)
    (cond (nat_le 0x3ff0_0000 ax)
    (cond (eq x (neg one)) (neg two54 ⊘ zero) ((x ⊖ x) ⊘ (x ⊖ x)))
    (cond (nat_lt ax 0x3e20_0000)
    (cond (lt zero (two54 ⊕ x) && nat_lt ax 0x3c90_0000) x (x ⊖ x ⊗ x ⊗ half))
    (cond (0 <ˢ high_word x || high_word x ≤ˢ 0xbfd2_bec3) (log1p_tail 1077 1 x zero) (log1p_wide x))))
    (log1p_wide x)
