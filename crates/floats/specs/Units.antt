-- Doubles counted in units of 2 ^ -1074, the smallest double above zero. Definitions only.
use Rattle.std.specs.Prelude.{ℕ, ◌+◌, ◌-◌, ◌*◌, ◌/◌, ◌%◌, ◌^◌, ◌≡◌, false, cond, T, leb, Float}
use Rattle.std.specs.Float.{nan, inf, fin, binary64}
use Rattle.std.specs.Float.Ieee.{up, down, fits}

-- how many units a finite double is in size; the division is exact (`count-exact`)
unfoldable pub count : Float → ℕ
count nan = 0
count (inf s) = 0
count (fin s m e) = m * up e * 2 ^ 1074 / down e

-- x is a double, finite and with its sign clear
abbrev pub Plain : Float → Type 0
Plain nan = ⊥
Plain (inf s) = ⊥
Plain (fin s m e) = (s ≡ false) × T (fits binary64 (fin s m e))

-- how many units the positive finite double with the pattern b is
abbrev pub units_at : ℕ → ℕ
units_at b = cond (leb (2 ^ 52) b) ((b % 2 ^ 52 + 2 ^ 52) * 2 ^ (b / 2 ^ 52 - 1)) (b % 2 ^ 52)
