-- Doubles whose value is a whole number. Definitions only.
use Rattle.std.specs.Prelude.{ℕ, ◌*◌, ◌≡◌, Bool, true, false, ℤ, pos, neg_ℤ, ◌*ℤ◌, Float}
use Rattle.std.specs.Float.{nan, inf, fin}
use Rattle.std.specs.Float.Ieee.{up, down}

-- n with the sign s
abbrev pub signed : Bool → ℕ → ℤ
signed false n = pos n
signed true n = neg_ℤ (pos n)

-- x is finite and its value is the fraction z / c, for a c above 0: ±m * 2 ^ e * c = z, where 2 ^ e is up e / down e
abbrev pub IsRatio : Float → ℤ → ℕ → Type 0
IsRatio nan z c = ⊥
IsRatio (inf s) z c = ⊥
IsRatio (fin s m e) z c = signed s (m * up e * c) ≡ z *ℤ pos (down e)

-- x is finite and its value is the integer z; both zeros have the value 0
abbrev pub IsInt : Float → ℤ → Type 0
IsInt x z = IsRatio x z 1
