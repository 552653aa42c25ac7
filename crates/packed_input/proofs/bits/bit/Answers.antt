-- `packed_input::bits::bit` meets its contract. Assumes nothing.
use mathlib.Core.Path.{refl}
use Rattle.packed_input.specs.Format.{bit_at}
use Rattle.packed_input.proofs.bits.bit.Goals as goal

pub returns : goal.returns
unfolding bit_at
returns c = rw c.from-byte.ensures refl
