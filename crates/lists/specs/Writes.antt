-- Loops that write one value at each of several places; what is written depends on the place alone. Definitions only.
use Rattle.std.specs.Prelude.{ℕ, List, [], ◌∷◌, set}

-- f t at each place t of a list of places, one after the other
unfoldable pub writes : {A : Type 0} → (ℕ → A) → List ℕ → List A → List A
writes f [] xs = xs
writes f (t ∷ ts) xs = writes f ts (set xs t (f t))
