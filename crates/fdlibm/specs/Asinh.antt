-- fdlibm 5.3's s_asinh.c: `asinh_of`, with one case for each `return` of the C, in its order. Definitions only.
use Rattle.std.specs.Prelude.{cond, ◌&&◌, nat_le, nat_lt, Float}
use Rattle.std.specs.Float.Ieee.{neg, lt}
use Rattle.floats.specs.Ops.{◌⊕◌, ◌⊗◌, ◌⊘◌, dbl, one, two}
use Rattle.floats.specs.Words.{high_word}
use Rattle.floats.specs.Methods.{abs_of}
use Rattle.root.specs.Root.{root_of}
use Rattle.fdlibm.specs.Ints.{◌<ˢ◌, ix_of}
use Rattle.fdlibm.specs.Log.{log_of}
use Rattle.fdlibm.specs.Log1p.{log1p_of}
use Rattle.fdlibm.specs.Acosh.{ln2}

-- the constant huge
abbrev pub huge : Float
huge = dbl 0x7e37_e43c_8800_759c

-- w, the size of the result
unfoldable pub asinh_size : Float → Float
asinh_size x =
    let ix = ix_of x in
    cond (nat_lt 0x41b0_0000 ix) (log_of (abs_of x) ⊕ ln2)
    (cond (nat_lt 0x4000_0000 ix)
    (log_of (two ⊗ abs_of x ⊕ one ⊘ (root_of (x ⊗ x ⊕ one) ⊕ abs_of x)))
    (log1p_of (abs_of x ⊕ x ⊗ x ⊘ (one ⊕ root_of (one ⊕ x ⊗ x)))))

-- the inverse of the hyperbolic sine
unfoldable pub asinh_of : Float → Float
asinh_of x =
    let ix = ix_of x in
    cond (nat_le 0x7ff0_0000 ix) (x ⊕ x)
    (cond (nat_lt ix 0x3e30_0000 && lt one (huge ⊕ x)) x
    (cond (0 <ˢ high_word x) (asinh_size x) (neg (asinh_size x))))
