-- fdlibm 5.3's e_acosh.c: `acosh_of`, with one case for each `return` of the C, in its order. Definitions only.
use Rattle.std.specs.Prelude.{cond, Float}
use Rattle.floats.specs.Ops.{◌⊕◌, ◌⊖◌, ◌⊗◌, ◌⊘◌, dbl, zero, one, two}
use Rattle.floats.specs.Words.{high_word, low_word}
use Rattle.root.specs.Root.{root_of}
use Rattle.fdlibm.specs.Ints.{◌<ˢ◌, ◌≤ˢ◌, words_are}
use Rattle.fdlibm.specs.Log.{log_of}
use Rattle.fdlibm.specs.Log1p.{log1p_of}

-- the constant ln2 of e_acosh.c and s_asinh.c
abbrev pub ln2 : Float
ln2 = dbl 0x3fe6_2e42_fefa_39ef

-- the inverse of the hyperbolic cosine
unfoldable pub acosh_of : Float → Float
acosh_of x =
    cond (high_word x <ˢ 0x3ff0_0000) ((x ⊖ x) ⊘ (x ⊖ x))
    (cond (0x41b0_0000 ≤ˢ high_word x)
    (cond (0x7ff0_0000 ≤ˢ high_word x) (x ⊕ x) (log_of x ⊕ ln2))
    (cond (words_are (high_word x) (low_word x) 0x3ff0_0000) zero
    (cond (0x4000_0000 <ˢ high_word x)
    (log_of (two ⊗ x ⊖ one ⊘ (x ⊕ root_of (x ⊗ x ⊖ one))))
    (let t = x ⊖ one in
    log1p_of (t ⊕ root_of (two ⊗ t ⊕ t ⊗ t))))))
