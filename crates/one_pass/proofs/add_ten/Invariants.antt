-- `one_pass::add_ten` meets its contract. Assumes nothing.
use mathlib.Core.Path.{◌≡◌}
use mathlib.Core.List.{reverse, zip}
use lib.ListN.{length}
use lib.Ieee.{nan}
use Rattle.lists.specs.Groups.{Below}
use Rattle.lists.specs.Loops.{scatter}
use Rattle.hinges.specs.Hinges.{plus}
use Rattle.one_pass.specs.Pass.{byte_of_first}
use Rattle.one_pass.proofs.add_ten.Given as goal

-- what is still to be added leads to what all ten dihedrals lead to
abbrev pub invariant-loop-tri : goal.invariant-loop-tri
invariant-loop-tri l =
    Below l.tri-iterator.a.iter.rest.now (length l.sums) × Below l.tri-iterator.a.iter.rest.now (length l.kinds)
    × (scatter nan plus (zip (reverse l.tri-iterator.a.iter.rest.now) l.tri-iterator.b.rest.now) l.sums ≡ scatter nan plus (zip (reverse l.initial.tri-iterator.a.iter.rest.now) l.initial.tri-iterator.b.rest.now) l.initial.sums)
    × (scatter 0 byte_of_first (zip (reverse l.tri-iterator.a.iter.rest.now) l.tri-iterator.b.rest.now) l.kinds ≡ scatter 0 byte_of_first (zip (reverse l.initial.tri-iterator.a.iter.rest.now) l.initial.tri-iterator.b.rest.now) l.initial.kinds)
