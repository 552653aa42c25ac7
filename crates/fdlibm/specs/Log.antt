-- fdlibm 5.3's e_log.c: `log_of`, cut where the C's branches meet; C's k is held as K = k + 1077. Definitions only.
use Rattle.std.specs.Prelude.{ℕ, ◌+◌, ◌-◌, ◌*◌, ◌/◌, ◌%◌, cond, ◌&&◌, nat_le, nat_lt, Float}
use Rattle.std.specs.Float.Ieee.{neg, eq}
use Rattle.floats.specs.Ops.{◌⊕◌, ◌⊖◌, ◌⊗◌, ◌⊘◌, dbl, zero, half, one, two}
use Rattle.floats.specs.Words.{high_word, low_word, of_words}
use Rattle.fdlibm.specs.Ints.{◌<ˢ◌, ◌≤ˢ◌, words_are, ix_of, dk, none}

-- ---- the constants of the file
abbrev pub ln2_hi : Float
ln2_hi = dbl 0x3fe6_2e42_fee0_0000

abbrev pub ln2_lo : Float
ln2_lo = dbl 0x3dea_39ef_3579_3c76

abbrev pub two54 : Float
two54 = dbl 0x4350_0000_0000_0000

abbrev pub Lg1 : Float
Lg1 = dbl 0x3fe5_5555_5555_5593

abbrev pub Lg2 : Float
Lg2 = dbl 0x3fd9_9999_9997_fa04

abbrev pub Lg3 : Float
Lg3 = dbl 0x3fd2_4924_9422_9359

abbrev pub Lg4 : Float
Lg4 = dbl 0x3fcc_71c5_1d8e_78af

abbrev pub Lg5 : Float
Lg5 = dbl 0x3fc7_4664_96cb_03de

abbrev pub Lg6 : Float
Lg6 = dbl 0x3fc3_9a09_d078_c69f

abbrev pub Lg7 : Float
Lg7 = dbl 0x3fc2_f112_df3e_5244

-- 0.33333333333333333
abbrev third : Float
third = dbl 0x3fd5_5555_5555_5555

-- ---- the logarithm

-- where |f| < 2**-20
unfoldable pub log_near : ℕ → Float → Float
log_near K f =
    cond (eq f zero)
    (cond (none K) zero (dk K ⊗ ln2_hi ⊕ dk K ⊗ ln2_lo))
    (let R = f ⊗ f ⊗ (half ⊖ third ⊗ f) in
    cond (none K) (f ⊖ R) (dk K ⊗ ln2_hi ⊖ (R ⊖ dk K ⊗ ln2_lo ⊖ f)))

-- from `s = f/(2.0+f)` on; hx is below 2 ^ 20, and the C's (hx-0x6147a)|(0x6b851-hx) is above 0 where neither difference is negative, since both are never 0
unfoldable pub log_far : ℕ → ℕ → Float → Float
log_far K hx f =
    let s = f ⊘ (two ⊕ f) in
    let z = s ⊗ s in
    let w = z ⊗ z in
    let t1 = w ⊗ (Lg2 ⊕ w ⊗ (Lg4 ⊕ w ⊗ Lg6)) in
    let t2 = z ⊗ (Lg1 ⊕ w ⊗ (Lg3 ⊕ w ⊗ (Lg5 ⊕ w ⊗ Lg7))) in
    let R = t2 ⊕ t1 in
    cond (nat_le 0x6147a hx && nat_le hx 0x6b851)
    (let hfsq = half ⊗ f ⊗ f in
    cond (none K) (f ⊖ (hfsq ⊖ s ⊗ (hfsq ⊕ R))) (dk K ⊗ ln2_hi ⊖ (hfsq ⊖ (s ⊗ (hfsq ⊕ R) ⊕ dk K ⊗ ln2_lo) ⊖ f)))
    (cond (none K) (f ⊖ s ⊗ (f ⊖ R)) (dk K ⊗ ln2_hi ⊖ (s ⊗ (f ⊖ R) ⊖ dk K ⊗ ln2_lo ⊖ f)))

-- from `if (hx >= 0x7ff00000)` on, where x's high word is not negative and J is the C's k + 54, so that k += (hx>>20)-1023 is K = J + (hx>>20);
-- i is the C's i>>20, and hx|(i^0x3ff00000) is hx with 0x3ff in front, or 0x3fe where i is 1
unfoldable pub log_from : ℕ → Float → Float
log_from J x =
    cond (0x7ff0_0000 ≤ˢ high_word x) (x ⊕ x)
    (let hx = high_word x % 0x10_0000 in
    let i = (hx + 0x9_5f64) / 0x10_0000 in
    let f = of_words (hx + 0x3ff0_0000 - i * 0x10_0000) (low_word x) ⊖ one in
    let K = J + high_word x / 0x10_0000 + i in
    cond (nat_lt ((2 + hx) % 0x10_0000) 3) (log_near K f) (log_far K hx f))

-- the logarithm
unfoldable pub log_of : Float → Float
log_of x =
    cond (high_word x <ˢ 0x0010_0000)
    (cond (words_are (ix_of x) (low_word x) 0) (neg two54 ⊘ zero)
    (cond (high_word x <ˢ 0) ((x ⊖ x) ⊘ zero)
    (log_from 0 (x ⊗ two54))))
    (log_from 54 x)
