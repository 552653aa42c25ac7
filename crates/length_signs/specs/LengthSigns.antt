-- How many squared lengths are timelike, null and spacelike. Definitions only.
use Rattle.std.specs.Prelude.{Bool, not, ◌&&◌, List, length, Float}
use Rattle.std.specs.Float.Ieee.{lt, eq}
use Rattle.floats.specs.Ops.{zero}
use Rattle.lists.specs.Lists.{keep}
use Rattle.length_signs.specs.declared.LengthSigns.{LengthSigns}

-- below zero
abbrev pub is_timelike : Float → Bool
is_timelike x = lt x zero

-- either zero
abbrev pub is_null : Float → Bool
is_null x = eq x zero

-- otherwise; a NaN too
abbrev pub is_spacelike : Float → Bool
is_spacelike x = not (is_timelike x) && not (is_null x)

-- the three counts
unfoldable pub signs_of : List Float → LengthSigns
signs_of ls = record { timelike = length (keep is_timelike ls); null = length (keep is_null ls); spacelike = length (keep is_spacelike ls) }
