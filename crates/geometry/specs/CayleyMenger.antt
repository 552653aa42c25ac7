-- The Cayley-Menger matrix of ten squared lengths and its cofactors, over any algebra. Definitions only.
use Rattle.std.specs.Prelude.{ℕ, ◌≤◌, ◌<◌, List, [], ◌∷◌, get_or, ℤ, pos, nat_abs, Float}
use Rattle.std.specs.Float.{nan}
use Rattle.floats.specs.Algebra.{Algebra}
use Rattle.floats.specs.Whole.{IsInt}
use Rattle.geometry.specs.Determinant.{cofactor}

-- the matrix of the squared lengths 01, 02, 03, 04, 12, 13, 14, 23, 24, 34
unfoldable pub cm : {A : Type 0} → Algebra A → List A → List (List A)
cm {A} o s =
    let l : ℕ → A = λ k. get_or s k o.out in
    (o.zero ∷ o.one ∷ o.one ∷ o.one ∷ o.one ∷ o.one ∷ [])
    ∷ (o.one ∷ o.zero ∷ l 0 ∷ l 1 ∷ l 2 ∷ l 3 ∷ [])
    ∷ (o.one ∷ l 0 ∷ o.zero ∷ l 4 ∷ l 5 ∷ l 6 ∷ [])
    ∷ (o.one ∷ l 1 ∷ l 4 ∷ o.zero ∷ l 7 ∷ l 8 ∷ [])
    ∷ (o.one ∷ l 2 ∷ l 5 ∷ l 7 ∷ o.zero ∷ l 9 ∷ [])
    ∷ (o.one ∷ l 3 ∷ l 6 ∷ l 8 ∷ l 9 ∷ o.zero ∷ [])
    ∷ []

-- the 15 cofactors of the rows and columns 1 to 5, no row above its column, row after row
unfoldable pub cofactors : {A : Type 0} → Algebra A → List A → List A
cofactors o s =
    let C = cofactor o (cm o s) in
    C 1 1 ∷ C 1 2 ∷ C 1 3 ∷ C 1 4 ∷ C 1 5
    ∷ C 2 2 ∷ C 2 3 ∷ C 2 4 ∷ C 2 5
    ∷ C 3 3 ∷ C 3 4 ∷ C 3 5
    ∷ C 4 4 ∷ C 4 5
    ∷ C 5 5
    ∷ []

-- ---- whole lengths

-- the first n of x are whole, with the values of the first n of z, each within -b to b
abbrev pub WholeWithin : ℕ → ℕ → List Float → List ℤ → Type 0
WholeWithin n b x z = (k : ℕ) → k < n → IsInt (get_or x k nan) (get_or z k (pos 0)) × (nat_abs (get_or z k (pos 0)) ≤ b)

-- how large whole lengths may be for exact cofactors
abbrev pub limit : ℕ
limit = 32768
