-- The ten dihedrals of a pentachoron, and their derivatives by the ten squared lengths, by central differences. Definitions only.
use Rattle.std.specs.Prelude.{ℕ, ◌/◌, ◌%◌, List, [], map, get_or, set, Float}
use Rattle.std.specs.Float.{nan}
use Rattle.floats.specs.Ops.{◌⊕◌, ◌⊖◌, ◌⊗◌, ◌⊘◌, two}
use Rattle.geometry.specs.Determinant.{table}
use Rattle.lorentzian.specs.declared.dihedral.Dihedral.{Dihedral}
use Rattle.lorentzian.specs.Dihedral.{value_of, lorentzian_dihedral, pairs}

-- the dihedrals of the ten pairs
unfoldable pub all_dihedrals : List Float → List Dihedral
all_dihedrals s = pairs (lorentzian_dihedral s)

-- the numbers of the ten dihedrals
unfoldable pub values : List Float → List Float
values s = map value_of (all_dihedrals s)

-- the central differences by the e-th length
unfoldable pub column : List Float → Float → ℕ → List Float
column s eps e =
    let old = get_or s e nan in
    let plus = values (set s e (old ⊕ eps)) in
    let minus = values (set s e (old ⊖ eps)) in
    table 10 (λ k. (get_or plus k nan ⊖ get_or minus k nan) ⊘ (two ⊗ eps))

-- what ten columns of ten have at the place i, row after row
unfoldable pub entry_of : List (List Float) → ℕ → Float
entry_of columns i = get_or (get_or columns (i % 10) []) (i / 10) nan

-- the derivative of the k-th dihedral by the e-th length at 10 k + e
unfoldable pub jacobian : List Float → Float → List Float
jacobian s eps = table 100 (entry_of (table 10 (column s eps)))
