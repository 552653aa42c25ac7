-- `lists::numbering::chain_of` meets its contract. The loop's invariant: h is the hash of the numbers so far. Assumes nothing.
use mathlib.Core.Path.{refl}
use native.Mathlib.Omega.{arith}
use lib.ListN.{take}
use Rattle.lists.specs.Chains.{hash}
use Rattle.lists.proofs.Chains.{hash-below, hash-snoc}
use Rattle.lists.proofs.numbering.chain_of.Goals as goal

pub loop-v-init : goal.loop-v-init
unfolding hash
loop-v-init c = refl

pub overflow_mul-h : goal.overflow_mul-h
overflow_mul-h c = let l = c.loop-v in omega (arith, l.invariant, hash-below (take l.v-index c.args.row.now))

pub overflow_add-h : goal.overflow_add-h
overflow_add-h c =
    let l = c.loop-v in omega (arith, l.invariant, hash-below (take l.v-index c.args.row.now), c.type_inv.row l.v-index)

pub loop-v-preserved : goal.loop-v-preserved
loop-v-preserved c = let l = c.loop-v in rw l.invariant (hash-snoc c.args.row.now l.v-index (omega arith))
