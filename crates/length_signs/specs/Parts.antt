-- What the step of the counts of length signs leaves. Definitions only.
use Rattle.std.specs.Prelude.{ℕ, ◌+◌, Bool, cond, Float}
use Rattle.length_signs.specs.declared.LengthSigns.{LengthSigns}
use Rattle.length_signs.specs.LengthSigns.{is_timelike, is_null, is_spacelike}

-- one more where a test passes
abbrev pub count_if : Bool → ℕ → ℕ
count_if b n = cond b (n + 1) n

-- the counts with one length more
unfoldable pub with_length : LengthSigns → Float → LengthSigns
with_length s x = record { timelike = count_if (is_timelike x) s.timelike; null = count_if (is_null x) s.null; spacelike = count_if (is_spacelike x) s.spacelike }
