-- Rows as keys: where a row is found, and rows numbered by first meeting. Definitions only.
use Rattle.std.specs.Prelude.{ℕ, zero, suc, ◌<◌, ◌≡◌, Bool, true, false, ◌&&◌, cond, eqb, ltb, length, get_or}
use mathlib.Core.List.{List, [], ◌∷◌, ◌++◌, foldl}

-- two rows are the same
unfoldable pub eqs : List ℕ → List ℕ → Bool
eqs [] [] = true
eqs [] (y ∷ ys) = false
eqs (x ∷ xs) [] = false
eqs (x ∷ xs) (y ∷ ys) = eqb x y && eqs xs ys

-- where a row first stands, and the number of rows where it does not
unfoldable pub find : List ℕ → List (List ℕ) → ℕ
find x [] = zero
find x (y ∷ ys) = let r = find x ys in cond (eqs x y) zero (suc r)

-- one row more is met: it goes to the end, unless it is there
unfoldable pub meet : List (List ℕ) → List ℕ → List (List ℕ)
meet known x = cond (ltb (find x known) (length known)) known (known ++ x ∷ [])

-- the rows by first meeting
unfoldable pub firsts : List (List ℕ) → List (List ℕ)
firsts xs = foldl meet [] xs

-- each row is found where it stands: none stands twice
abbrev pub Distinct : List (List ℕ) → Type 0
Distinct xs = (i : ℕ) → i < length xs → find (get_or xs i []) xs ≡ i
