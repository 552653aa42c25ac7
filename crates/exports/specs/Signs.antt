-- The counts of length signs as they are exported. Definitions only.
use Rattle.std.specs.Prelude.{ℕ, List, [], ◌∷◌}
use Rattle.length_signs.specs.declared.LengthSigns.{LengthSigns}

-- the counts of signs as numbers
abbrev pub signs_list : LengthSigns → List ℕ
signs_list s = s.timelike ∷ s.null ∷ s.spacelike ∷ []
