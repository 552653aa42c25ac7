-- `second_derivatives::add_diagonal` meets its contract. Assumes nothing.
use Prim.Native.Nat.{ℕ}
use mathlib.Core.List.{List, [], ◌∷◌}
use mathlib.Core.Path.{◌≡◌}
use lib.Ieee.{Float, nan}
use lib.ListN.{length, get_or}
use Rattle.floats.specs.Ops.{◌⊕◌, ◌⊗◌}
use Rattle.lists.specs.Lists.{gather, upto}
use Rattle.lists.specs.Loops.{scatter}
use Rattle.incidence.specs.Incidence.{edge_list}
use Rattle.second_derivatives.specs.SecondDerivatives.{area_second}
use Rattle.second_derivatives.proofs.add_diagonal.Given as goal

-- what goes to the i-th edge
abbrev pub event : List ℕ → List Float → Float → Float → ℕ → List (ℕ × Float)
event own s area deficit i = (get_or own i 0, area_second s area i i ⊗ deficit) ∷ []

abbrev pub invariant-loop-i : goal.invariant-loop-i
invariant-loop-i l =
    (length l.diagonal ≡ length l.initial.diagonal) × (l.diagonal ≡ scatter nan ◌⊕◌ (gather (event (edge_list l.fn.edges) l.s l.area l.deficit) (upto l.i)) l.initial.diagonal)
