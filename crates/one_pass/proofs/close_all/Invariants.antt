-- `one_pass::close_all` meets its contract. Assumes nothing.
use Prim.Native.Nat.{ℕ}
use mathlib.Core.Path.{◌≡◌}
use mathlib.Core.List.{List, ◌++◌, map}
use lib.ListN.{get_or, drop}
use lib.Ieee.{Float, nan}
use Rattle.lists.specs.Lists.{upto}
use Rattle.lorentzian.specs.Dihedral.{kind_number}
use Rattle.hinges.specs.declared.hinge.Hinge.{Hinge}
use Rattle.hinges.specs.Hinges.{kind_in, closed}
use Rattle.one_pass.proofs.close_all.Given as goal

-- the hinge at t of a list of sums and a list of bytes
abbrev pub closed_at : List Float → List ℕ → ℕ → Hinge
closed_at sums kinds t = closed (kind_in (get_or kinds t 0)) (get_or sums t nan)

abbrev pub invariant-loop-k : goal.invariant-loop-k
invariant-loop-k l =
    (l.sums ≡ map (λ t. (closed_at l.initial.sums l.initial.kinds t).deficit) (upto l.k) ++ drop l.k l.initial.sums)
    × (l.kinds ≡ map (λ t. kind_number (closed_at l.initial.sums l.initial.kinds t).kind) (upto l.k) ++ drop l.k l.initial.kinds)
