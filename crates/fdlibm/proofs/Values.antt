-- What the definitions give at some doubles, by computation. Assumes nothing.
use Rattle.std.proofs.Common.{◌≡◌, refl}
use lib.Ieee.{size, to_bits, of_bits, of_int, add, sub, mul, div, neg, eq, lt}
use Rattle.floats.specs.Ops.{◌⊕◌, ◌⊖◌, ◌⊗◌, dbl, one, two}
use Rattle.floats.specs.Units.{count}
use Rattle.floats.specs.Words.{high_word, low_word, of_words}
use Rattle.root.specs.Root.{floor_root, root_bits, root_of}
use Rattle.fdlibm.specs.Ints.{◌<ˢ◌, ◌≤ˢ◌, words_are, dk}
use Rattle.fdlibm.specs.Log.{log_near, log_far, log_from, log_of}
use Rattle.fdlibm.specs.Log1p.{log1p_of}
use Rattle.fdlibm.specs.Acos.{ratio_of, acos_above, acos_of}
use Rattle.fdlibm.specs.Acosh.{acosh_of}
use Rattle.fdlibm.specs.Asinh.{asinh_of}

-- of 0, of 0.25 and of 0.75
acos-zero : acos_of (dbl 0) ≡ dbl 0x3ff9_21fb_5444_2d18
unfolding acos_of words_are ◌<ˢ◌ high_word low_word of_bits to_bits add
acos-zero = refl

acos-quarter : acos_of (dbl 0x3fd0_0000_0000_0000) ≡ dbl 0x3ff5_1700_e0c1_4b25
unfolding acos_of ratio_of words_are ◌<ˢ◌ high_word low_word of_bits to_bits add sub mul div
acos-quarter = refl

acos-three_quarters : acos_of (dbl 0x3fe8_0000_0000_0000) ≡ dbl 0x3fe7_20a3_92c1_d955
unfolding acos_of acos_above ratio_of root_of root_bits floor_root count size words_are ◌<ˢ◌ high_word low_word of_words of_bits to_bits add sub mul div
acos-three_quarters = refl

-- of 2 and of the smallest double
log-two : log_of (dbl 0x4000_0000_0000_0000) ≡ dbl 0x3fe6_2e42_fefa_39ef
unfolding log_of log_from log_near log_far dk words_are ◌<ˢ◌ ◌≤ˢ◌ high_word low_word of_words of_int of_bits to_bits add sub mul div neg eq
log-two = refl

log_smallest : log_of (dbl 1) ≡ dbl 0xc087_4385_446d_71c3
unfolding log_of log_from log_near log_far dk words_are ◌<ˢ◌ ◌≤ˢ◌ high_word low_word of_words of_int of_bits to_bits add sub mul div neg eq
log_smallest = refl

-- just above 2 the high word is still that of 2, and the last branch is taken
acosh-above-two : let x = dbl 0x4000_0000_0000_0001 in let t = x ⊖ one in acosh_of x ≡ log1p_of (t ⊕ root_of (two ⊗ t ⊕ t ⊗ t))
unfolding acosh_of words_are ◌<ˢ◌ ◌≤ˢ◌ high_word low_word of_bits to_bits
acosh-above-two = refl

-- of -0.0
asinh-minus-zero : asinh_of (dbl 0x8000_0000_0000_0000) ≡ dbl 0x8000_0000_0000_0000
unfolding asinh_of ◌<ˢ◌ high_word of_bits to_bits add lt
asinh-minus-zero = refl
