-- The operators of f64 and the doubles that several files name, over `lib.Ieee`. Definitions only.
use Rattle.std.specs.Prelude.{ℕ, Float}
use Rattle.std.specs.Float.{binary64}
use Rattle.std.specs.Float.Ieee.{add, sub, mul, div, of_bits}

infixl 60 ◌⊕◌
infixl 60 ◌⊖◌
infixl 70 ◌⊗◌
infixl 70 ◌⊘◌
-- + - * / on doubles, each rounded once
abbrev pub ◌⊕◌ : Float → Float → Float
◌⊕◌ = add binary64

abbrev pub ◌⊖◌ : Float → Float → Float
◌⊖◌ = sub binary64

abbrev pub ◌⊗◌ : Float → Float → Float
◌⊗◌ = mul binary64

abbrev pub ◌⊘◌ : Float → Float → Float
◌⊘◌ = div binary64

-- the double of a bit pattern
abbrev pub dbl : ℕ → Float
dbl n = of_bits binary64 n

-- 0.0, 0.5, 1.0 and 2.0
abbrev pub zero : Float
zero = dbl 0

abbrev pub half : Float
half = dbl 0x3fe0_0000_0000_0000

abbrev pub one : Float
one = dbl 0x3ff0_0000_0000_0000

abbrev pub two : Float
two = dbl 0x4000_0000_0000_0000
