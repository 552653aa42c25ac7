-- Determinants and cofactors of a matrix, a list of rows, over any algebra: Laplace's expansion along the first row, in the Rust's order of operations. Definitions only.
use Rattle.std.specs.Prelude.{ℕ, zero, suc, ◌≡◌, ◌+◌, ◌%◌, cond, List, [], ◌∷◌, ltb, eqb, get_or, ◌<◌, Float}
use Rattle.floats.specs.Algebra.{Algebra, doubles}

-- f 0, f 1, .. f (n - 1)
unfoldable pub table : {A : Type 0} → ℕ → (ℕ → A) → List A
table zero f = []
table (suc n) f = f 0 ∷ table n (λ i. f (suc i))

-- the entry in row i and column j
unfoldable pub at : {A : Type 0} → Algebra A → List (List A) → ℕ → ℕ → A
at o m i j = get_or (get_or m i []) j o.out

-- the i-th of the numbers 0, 1, .. without r
unfoldable pub skip : ℕ → ℕ → ℕ
skip r i = cond (ltb i r) i (i + 1)

-- the n × n matrix that is m without the row `row` and the column `col`
unfoldable pub minor : {A : Type 0} → Algebra A → ℕ → List (List A) → ℕ → ℕ → List (List A)
minor o n m row col = table n (λ i. table n (λ j. at o m (skip row i) (skip col j)))

-- 1 for an even number, -1 for an odd one
unfoldable pub sign : {A : Type 0} → Algebra A → ℕ → A
sign o n = cond (eqb (n % 2) 0) o.one o.minus_one

-- the determinant of a 3 × 3 matrix
unfoldable pub det3 : {A : Type 0} → Algebra A → List (List A) → A
det3 o m =
    let a = at o m in
    o.add
    (o.sub
    (o.mul (a 0 0) (o.sub (o.mul (a 1 1) (a 2 2)) (o.mul (a 1 2) (a 2 1))))
    (o.mul (a 0 1) (o.sub (o.mul (a 1 0) (a 2 2)) (o.mul (a 1 2) (a 2 0)))))
    (o.mul (a 0 2) (o.sub (o.mul (a 1 0) (a 2 1)) (o.mul (a 1 1) (a 2 0))))

-- the sum, from 0, of the columns before k: each adds its sign times its entry in the first row, and that times the determinant `det` of its n × n minor
unfoldable pub expand : {A : Type 0} → Algebra A → (List (List A) → A) → ℕ → List (List A) → ℕ → A
expand o det n m zero = o.zero
expand o det n m (suc k) = o.add (expand o det n m k) (o.mul (o.mul (sign o k) (at o m 0 k)) (det (minor o n m 0 k)))

-- what answers by `post` gives what f gives for the minors of the columns before k
abbrev pub GivesMinors : (ℕ → Float → Type 0) → (List (List Float) → Float) → ℕ → List (List Float) → ℕ → Type 0
GivesMinors post f n m k = (col : ℕ) (y : Float) → col < k → post col y → y ≡ f (minor doubles n m 0 col)

-- the determinant of a 4 × 4 matrix
unfoldable pub det4 : {A : Type 0} → Algebra A → List (List A) → A
det4 o m = expand o (det3 o) 3 m 4

-- the determinant of a 5 × 5 matrix
unfoldable pub det5 : {A : Type 0} → Algebra A → List (List A) → A
det5 o m = expand o (det4 o) 4 m 5

-- the cofactor of a 6 × 6 matrix
unfoldable pub cofactor : {A : Type 0} → Algebra A → List (List A) → ℕ → ℕ → A
cofactor o m row col = o.mul (sign o (row + col)) (det5 o (minor o 5 m row col))
