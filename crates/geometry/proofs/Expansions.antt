-- The minors of three and of four rows by those of the rows without the first: expansions along it, in a list's order. Assumes nothing.
use Prim.Native.Nat.{ℕ, ◌+◌}
use mathlib.Core.List.{List, [], ◌∷◌, ◌++◌, map}
use mathlib.Core.Path.{◌≡◌, refl}
use lib.ListN.{get_or, take, drop}
use lib.Ieee.{Float, nan}
use Rattle.lists.specs.Lists.{combos, upto}
use Rattle.lists.specs.Keys.{eqs, find}
use Rattle.floats.specs.Algebra.{doubles}
use Rattle.floats.specs.Ops.{◌⊕◌, ◌⊖◌, ◌⊗◌, zero}
use Rattle.geometry.specs.Determinant.{table, at, skip, minor, sign, det3, expand, det4}
use Rattle.geometry.specs.Minors.{pick, det2, minors, pairs, triples, bordered}

-- the minor in a list by which the i-th of the columns is multiplied
unfoldable pub beside : List (List ℕ) → List Float → List ℕ → ℕ → Float
beside choices m cols i = get_or m (find (take i cols ++ drop (i + 1) cols) choices) nan

-- the expansions of three rows
unfoldable pub by_two : List Float → List Float → List Float
by_two x m = map (λ cols. let t : ℕ → Float = λ i. get_or x (get_or cols i 0) nan ⊗ beside pairs m cols i in t 0 ⊖ t 1 ⊕ t 2) triples

-- they are the minors of three rows
pub by-two-is : (x y z m : List Float) → m ≡ minors doubles (det2 doubles) (y ∷ z ∷ []) pairs → by_two x m ≡ minors doubles (det3 doubles) (x ∷ y ∷ z ∷ []) triples
unfolding by_two beside find eqs minors pick det2 det3 at combos upto
by-two-is x y z m e = rw e refl

-- and of four
unfoldable pub by_three : List Float → List Float → List Float
by_three x m =
    map (λ cols. let t : ℕ → Float = λ i. sign doubles i ⊗ get_or x (get_or cols i 0) nan ⊗ beside triples m cols i in zero ⊕ t 0 ⊕ t 1 ⊕ t 2 ⊕ t 3) bordered

-- these those of four
pub by-three-is : (x y z w m : List Float) → m ≡ minors doubles (det3 doubles) (y ∷ z ∷ w ∷ []) triples → by_three x m ≡ minors doubles (det4 doubles) (x ∷ y ∷ z ∷ w ∷ []) bordered
unfolding by_three beside find eqs minors pick det4 expand minor table skip at combos upto
by-three-is x y z w m e = rw e refl
