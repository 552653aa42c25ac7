-- What `root_of` gives at some doubles, by computation. Assumes nothing.
use Rattle.std.proofs.Common.{◌≡◌, refl}
use lib.Ieee.{binary64, size, of_bits}
use Rattle.floats.specs.Units.{count}
use Rattle.root.specs.Root.{floor_root, root_bits, root_of}

-- of 2, of the largest double, of the smallest, and of -0.0
two : root_of (of_bits binary64 0x4000_0000_0000_0000) ≡ of_bits binary64 0x3ff6_a09e_667f_3bcd
unfolding root_of root_bits floor_root count size of_bits
two = refl

largest : root_of (of_bits binary64 0x7fef_ffff_ffff_ffff) ≡ of_bits binary64 0x5fef_ffff_ffff_ffff
unfolding root_of root_bits floor_root count size of_bits
largest = refl

smallest : root_of (of_bits binary64 1) ≡ of_bits binary64 0x1e60_0000_0000_0000
unfolding root_of root_bits floor_root count size of_bits
smallest = refl

minus-zero : root_of (of_bits binary64 0x8000_0000_0000_0000) ≡ of_bits binary64 0x8000_0000_0000_0000
unfolding root_of root_bits floor_root count size of_bits
minus-zero = refl
