-- fdlibm 5.3's e_acos.c: `acos_of`, with one case for each `return` of the C, in its order. Definitions only.
use Rattle.std.specs.Prelude.{cond, nat_le, nat_lt, Float}
use Rattle.floats.specs.Ops.{◌⊕◌, ◌⊖◌, ◌⊗◌, ◌⊘◌, dbl, zero, half, one, two}
use Rattle.floats.specs.Words.{high_word, low_word, of_words}
use Rattle.root.specs.Root.{root_of}
use Rattle.fdlibm.specs.Ints.{◌<ˢ◌, words_are, ix_of}

-- ---- the constants of the file
abbrev pub pi : Float
pi = dbl 0x4009_21fb_5444_2d18

abbrev pub pio2_hi : Float
pio2_hi = dbl 0x3ff9_21fb_5444_2d18

abbrev pub pio2_lo : Float
pio2_lo = dbl 0x3c91_a626_3314_5c07

abbrev pub pS0 : Float
pS0 = dbl 0x3fc5_5555_5555_5555

abbrev pub pS1 : Float
pS1 = dbl 0xbfd4_d612_03eb_6f7d

abbrev pub pS2 : Float
pS2 = dbl 0x3fc9_c155_0e88_4455

abbrev pub pS3 : Float
pS3 = dbl 0xbfa4_8228_b568_8f3b

abbrev pub pS4 : Float
pS4 = dbl 0x3f49_efe0_7501_b288

abbrev pub pS5 : Float
pS5 = dbl 0x3f02_3de1_0dfd_f709

abbrev pub qS1 : Float
qS1 = dbl 0xc003_3a27_1c8a_2d4b

abbrev pub qS2 : Float
qS2 = dbl 0x4000_2ae5_9c59_8ac8

abbrev pub qS3 : Float
qS3 = dbl 0xbfe6_066c_1b8d_0159

abbrev pub qS4 : Float
qS4 = dbl 0x3fb3_b8c5_b12e_9282

-- ---- the arc cosine

-- r = p/q at z
unfoldable pub ratio_of : Float → Float
ratio_of z =
    z ⊗ (pS0 ⊕ z ⊗ (pS1 ⊕ z ⊗ (pS2 ⊕ z ⊗ (pS3 ⊕ z ⊗ (pS4 ⊕ z ⊗ pS5)))))
    ⊘ (one ⊕ z ⊗ (qS1 ⊕ z ⊗ (qS2 ⊕ z ⊗ (qS3 ⊕ z ⊗ qS4))))

-- where x < -0.5
unfoldable pub acos_below : Float → Float
acos_below x =
    let z = (one ⊕ x) ⊗ half in
    let s = root_of z in
    pi ⊖ two ⊗ (s ⊕ (ratio_of z ⊗ s ⊖ pio2_lo))

-- where x > 0.5
unfoldable pub acos_above : Float → Float
acos_above x =
    let z = (one ⊖ x) ⊗ half in
    let s = root_of z in
    let df = of_words (high_word s) 0 in
    let c = (z ⊖ df ⊗ df) ⊘ (s ⊕ df) in
    two ⊗ (df ⊕ (ratio_of z ⊗ s ⊕ c))

-- the angle whose cosine is x
unfoldable pub acos_of : Float → Float
acos_of x =
    let ix = ix_of x in
    cond (nat_le 0x3ff0_0000 ix)
    (cond (words_are ix (low_word x) 0x3ff0_0000)
    (cond (0 <ˢ high_word x) zero (pi ⊕ two ⊗ pio2_lo))
    ((x ⊖ x) ⊘ (x ⊖ x)))
    (cond (nat_lt ix 0x3fe0_0000)
    (cond (nat_le ix 0x3c60_0000) (pio2_hi ⊕ pio2_lo) (pio2_hi ⊖ (x ⊖ (pio2_lo ⊖ x ⊗ ratio_of (x ⊗ x)))))
    (cond (high_word x <ˢ 0) (acos_below x) (acos_above x)))
