-- `lists::numbering::chain_of` meets its contract. The loop's invariant: h is the hash of the numbers so far. Assumes nothing.
use mathlib.Core.Path.{◌≡◌}
use lib.ListN.{take}
use Rattle.lists.specs.Chains.{hash}
use Rattle.lists.proofs.numbering.chain_of.Given as goal

abbrev pub invariant-loop-v : goal.invariant-loop-v
invariant-loop-v l = l.h ≡ hash (take l.v-index l.row)
