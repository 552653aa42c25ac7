-- The counts of signs as text. Definitions only.
use Rattle.std.specs.Prelude.{ℕ, List, ◌++◌, codes}
use Rattle.std.specs.Fmt.{decimal}
use Rattle.length_signs.specs.declared.LengthSigns.{LengthSigns}

-- each count after its name
abbrev pub signs_text : LengthSigns → List ℕ
signs_text s = codes "timelike " ++ (decimal s.timelike ++ (codes " null " ++ (decimal s.null ++ (codes " spacelike " ++ decimal s.spacelike))))
