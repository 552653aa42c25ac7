-- Rows in one flat list, as the code has them: rows of one width, and rows of any length with their starts. Definitions only.
use Rattle.std.specs.Prelude.{ℕ, zero, suc, ◌+◌, ◌≡◌, Bool, true, false, ◌&&◌, eqb, length, take, drop}
use mathlib.Core.List.{List, [], ◌∷◌, ◌++◌, Memᴰ}

-- the rows one after the other
unfoldable pub flat : List (List ℕ) → List ℕ
flat [] = []
flat (x ∷ xs) = x ++ flat xs

-- the first n rows of w numbers
unfoldable pub rows : ℕ → ℕ → List ℕ → List (List ℕ)
rows w zero xs = []
rows w (suc n) xs = take w xs ∷ rows w n (drop w xs)

-- every row has w numbers
abbrev pub Wide : ℕ → List (List ℕ) → Type 0
Wide w xs = (x : List ℕ) → Memᴰ x xs → length x ≡ w

-- where each row starts in the flat list, with the end of the last; the first starts at a
unfoldable pub starts_from : ℕ → List (List ℕ) → List ℕ
starts_from a [] = a ∷ []
starts_from a (x ∷ xs) = a ∷ starts_from (a + length x) xs

-- where each row starts, from 0 to the total
abbrev pub starts : List (List ℕ) → List ℕ
starts xs = starts_from 0 xs

-- a lent list with new content written over its beginning; what follows is kept
unfoldable pub over : {A : Type 0} → List A → List A → List A
over new old = new ++ drop (length new) old

-- a list has `new` at its beginning
unfoldable pub begins : List ℕ → List ℕ → Bool
begins [] xs = true
begins (v ∷ new) [] = false
begins (v ∷ new) (x ∷ xs) = eqb v x && begins new xs
