-- Free edges: the triangles and pentachorons on them, the hinges of those triangles, and the gradient's entries. Definitions only.
use Rattle.std.specs.Prelude.{ℕ, List, map, Float, length, get_or, replicate}
use Rattle.std.specs.Float.{nan}
use Rattle.floats.specs.Ops.{◌⊕◌, zero}
use Rattle.lists.specs.Lists.{gather}
use Rattle.lists.specs.Groups.{places}
use Rattle.lists.specs.Loops.{scatter}
use Rattle.marks.specs.Marks.{met, listed}
use Rattle.hinges.specs.declared.hinge.Hinge.{Hinge}
use Rattle.hinges.specs.Hinges.{FaceLists, hinges, hinge_in, hinge_at}
use Rattle.hinges.specs.Action.{edges_at, tri_lengths, contributions_of, gradient}

-- ---- the faces on free edges

-- the triangles on free edges, each once, ascending
abbrev pub local_triangles : FaceLists → List ℕ → List ℕ
local_triangles F free = listed (length F.triangles) (met F.triangles F.edges free)

-- the pentachorons on free edges, each once, ascending
abbrev pub local_pents : FaceLists → List ℕ → List ℕ
local_pents F free = listed (length F.pents) (met F.pents F.edges free)

-- ---- hinges

-- `local_deficit_angles`: the records of those triangles in the table of all
abbrev pub local_hinges : FaceLists → List Float → List ℕ → List Hinge
local_hinges F ls free = map (hinge_in (hinges F ls)) (local_triangles F free)

-- ---- the gradient

-- `local_lorentzian_regge_action_grad`: the entry of each free edge in the gradient of all
unfoldable pub local_gradient : FaceLists → List Float → List ℕ → List Float
local_gradient F ls free = map (λ e. get_or (gradient F ls) e nan) free

-- events at edges, each at the place of its edge among the free ones; those of other edges are left out
unfoldable pub at_free : List ℕ → List (ℕ × Float) → List (ℕ × Float)
at_free free es = gather (λ a. map (λ k. (k, a.1)) (places a.0 0 free)) es

-- the same as the Rust sums it for distinct free edges: triangles ascending, their hinges worked out by themselves, only free edges' entries
unfoldable pub summed_gradient : FaceLists → List (List ℕ) → List Float → List ℕ → List Float
summed_gradient F tri_to_pents ls free =
    scatter nan ◌⊕◌ (gather (λ t. at_free free (contributions_of (edges_at F t) (tri_lengths F ls t) (hinge_at F tri_to_pents ls t).deficit)) (local_triangles F free)) (replicate (length free) zero)
