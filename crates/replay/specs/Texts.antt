-- Rows as text. Definitions only.
use Rattle.std.specs.Prelude.{ℕ, List, ◌∷◌, flat_map, Float}
use Rattle.printing.specs.Text.{text_of}

-- doubles, each after a space
abbrev pub texts_of : List Float → List ℕ
texts_of xs = flat_map (λ x. 32 ∷ text_of x) xs
