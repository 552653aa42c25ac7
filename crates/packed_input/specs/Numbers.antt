-- Numbers of one width that follow each other. Definitions only.
use Rattle.std.specs.Prelude.{ℕ, ◌+◌, ◌*◌, ◌≡◌, List, length, map}
use Rattle.lists.specs.Lists.{upto}
use Rattle.packed_input.specs.Format.{field}

-- entry i is what h makes of the i-th number of w bits from bit `at` on
abbrev pub entry_in : {A : Type 0} → (ℕ → A) → List ℕ → ℕ → ℕ → ℕ → A
entry_in h input at w i = h (field input (at + w * i) w)

-- a list is written with such entries, whatever h the closure computes
abbrev pub ReadsNumbers : {A : Type 0} → (ℕ → A → Type 0) → List ℕ → ℕ → ℕ → List A → List A → Type 0
ReadsNumbers {A} post input at w old new =
    (h : ℕ → A) → ((n : ℕ) (v : A) → post n v → v ≡ h n) → new ≡ map (entry_in h input at w) (upto (length old))
