-- Adjacency as the Rust's loops push it. Definitions only.
use Rattle.std.specs.Prelude.{ℕ, List, [], ◌∷◌, ◌++◌, map, length, get_or, replicate}
use Rattle.lists.specs.Lists.{gather, upto, combos}
use Rattle.lists.specs.Keys.{find}
use Rattle.lists.specs.Loops.{scatter}

-- the events of row i: its number goes to each of its faces of k vertices, which `keys` numbers
unfoldable pub pushes : List (List ℕ) → ℕ → List (List ℕ) → ℕ → List (ℕ × ℕ)
pushes keys k rs i = map (λ s. (find s keys, i)) (combos (get_or rs i []) k)

-- from empty lists on, row after row
unfoldable pub pushed : List (List ℕ) → ℕ → List (List ℕ) → List (List ℕ)
pushed keys k rs = scatter [] (λ xs i. xs ++ i ∷ []) (gather (pushes keys k rs) (upto (length rs))) (replicate (length keys) [])
