-- Counts of a complex in plain numbers. Definitions only.
use Rattle.std.specs.Prelude.{ℕ, List, [], ◌∷◌, get_or}
use Rattle.complex.specs.declared.Counts.{Counts}

-- counts as numbers
abbrev pub counts_list : Counts → List ℕ
counts_list c = c.vertices ∷ c.pentachorons ∷ c.edges ∷ c.triangles ∷ c.tets ∷ []

-- five numbers as counts
abbrev pub counts_of_list : List ℕ → Counts
counts_of_list c = record { vertices = get_or c 0 0; pentachorons = get_or c 1 0; edges = get_or c 2 0; triangles = get_or c 3 0; tets = get_or c 4 0 }
