-- Numbers spelled in hexadecimal digits. Definitions only.
use Rattle.std.specs.Prelude.{ℕ, ◌+◌, ◌-◌, ◌*◌, ◌%◌, cond, List, ltb, length, take, drop, fold}

-- the value of a digit in lower case, and 0 for any other byte
unfoldable pub digit_of : ℕ → ℕ
digit_of b = cond (ltb b 48) 0 (cond (ltb b 58) (b - 48) (cond (ltb b 97) 0 (cond (ltb b 103) (b - 87) 0)))

-- what n becomes as the digits follow it; of more than 16 digits the last 16 count
abbrev pub spelled : ℕ → List ℕ → ℕ
spelled n digits = fold (λ m b. m % 0x1000_0000_0000_0000 * 16 + digit_of b) n digits

-- the number that the 16 digits of s from `at` spell, 0 where they run past the end
unfoldable pub number_at : List ℕ → ℕ → ℕ
number_at s at = cond (ltb (length s) (at + 16)) 0 (spelled 0 (take 16 (drop at s)))
