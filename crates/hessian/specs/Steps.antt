-- What the loops of the local Hessian leave: the sums on the diagonal. Definitions only.
use Rattle.std.specs.Prelude.{ℕ, ◌+◌, ◌*◌, List, map, Float, length, get_or, replicate}
use Rattle.std.specs.Float.{nan}
use Rattle.floats.specs.Ops.{◌⊕◌, zero}
use Rattle.lists.specs.Lists.{gather, upto}
use Rattle.lists.specs.Loops.{scatter}
use Rattle.hinges.specs.Hinges.{FaceLists}
use Rattle.hinges.specs.Local.{local_triangles}
use Rattle.hessian.specs.Parts.{diagonal_at}

-- a sum before what an entry holds
abbrev pub ahead : Float → Float → Float
ahead h x = x ⊕ h

-- the sums of free edges on the diagonal of their matrix
unfoldable pub diagonal_events : List ℕ → List Float → List (ℕ × Float)
diagonal_events free sums = map (λ i. (i * length free + i, get_or sums (get_or free i 0) nan)) (upto (length free))

-- what the triangles on free edges add on the diagonal, by the numbers of edges
unfoldable pub diagonal_of : FaceLists → List Float → List ℕ → List Float
diagonal_of F ls free = scatter nan ◌⊕◌ (gather (diagonal_at F ls) (local_triangles F free)) (replicate 81920 zero)
