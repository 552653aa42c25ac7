-- `hinges::contributions::add_contributions` meets its contract. Assumes nothing.
use mathlib.Core.Path.{◌≡◌}
use lib.ListN.{length}
use lib.Ieee.{nan}
use mathlib.Core.List.{zip}
use Rattle.floats.specs.Ops.{◌⊕◌}
use Rattle.lists.specs.Groups.{Below}
use Rattle.lists.specs.Loops.{scatter}
use Rattle.hinges.proofs.contributions.add_contributions.Given as goal

-- what is still to be added leads to what all edges lead to
abbrev pub invariant-loop-edge : goal.invariant-loop-edge
invariant-loop-edge l =
    Below l.edge-iterator.a.rest.now (length l.grad)
    × (scatter nan ◌⊕◌ (zip l.edge-iterator.a.rest.now l.edge-iterator.b.rest.now) l.grad ≡ scatter nan ◌⊕◌ (zip l.initial.edge-iterator.a.rest.now l.initial.edge-iterator.b.rest.now) l.initial.grad)
