-- What a step of the one pass adds. Definitions only.
use Rattle.std.specs.Prelude.{ℕ, ◌-◌, List, map, get_or}
use Rattle.std.specs.Float.{nan}
use Rattle.lists.specs.Lists.{upto}
use Rattle.lorentzian.specs.declared.dihedral.Dihedral.{Dihedral}
use Rattle.lorentzian.specs.declared.dihedral.Dihedral.TheVariants.{Angle}
use Rattle.hinges.specs.Hinges.{byte_of, kind_in, first}

-- a byte of the list of kinds, with one dihedral more
unfoldable pub byte_of_first : ℕ → Dihedral → ℕ
byte_of_first b d = byte_of (first (kind_in b) d)

-- the ten dihedrals of a pentachoron with its ten triangle numbers: a pair of vertices is opposite the triangle that is as far from the last as the pair is from the first
abbrev pub ten_events : List ℕ → List Dihedral → List (ℕ × Dihedral)
ten_events tris ds = map (λ k. (get_or tris (9 - k) 0, get_or ds k (Angle nan))) (upto 10)
