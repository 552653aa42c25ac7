-- What lists are filled with: the numbers of a line, or the pattern before a call. Definitions only.
use Rattle.std.specs.Prelude.{ℕ, ◌+◌, ◌*◌, ◌%◌, ◌<◌, ◌≡◌, List, length, get_or}
use Rattle.replay.specs.Hexadecimal.{number_at}

-- a list of the same length, whose entry at each place a relation allows
pub record Made {A : Type 0} (at : ℕ → A → Type 0) (old new : List A) : Type 0 where
  pub len : length new ≡ length old
  pub entries : (k : ℕ) (d : A) → k < length old → at k (get_or new k d)

-- the lower 32 bits of a number
abbrev pub word_of : ℕ → ℕ
word_of n = n % 0x1_0000_0000

-- the entry of the i-th number from `at` on, 17 bytes each
abbrev pub entry_in : {A : Type 0} → (ℕ → A) → List ℕ → ℕ → ℕ → A
entry_in of s at i = of (number_at s (at + 17 * i))

-- the number whose entry stands at a place before a call
abbrev pub pattern_at : ℕ → ℕ
pattern_at i = 50000 + i % 10000
