-- `packed_input::fields::Packed::read_lengths` meets its contract. Assumes nothing.
use lib.Ieee.{binary64, of_bits}
use Rattle.std.proofs.Common.{rules}
use Rattle.packed_input.specs.Format.{sq_lengths_in}
use Rattle.packed_input.proofs.fields.Packed.read_lengths.Goals as goal

pub returns : goal.returns
unfolding sq_lengths_in
returns c = rw c.lengths_start-at.ensures at c.read_numbers.ensures (of_bits binary64) (λ k v h. search (rules, h))
