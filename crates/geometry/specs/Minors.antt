-- The minors of some rows that several cofactors share, over any algebra, and the lengths for which they do. Definitions only.
use Rattle.std.specs.Prelude.{ℕ, Bool, true, ◌&&◌, List, [], ◌∷◌, map, get_or, Float}
use Rattle.std.specs.Float.Ieee.{lt}
use Rattle.floats.specs.Algebra.{Algebra}
use Rattle.floats.specs.Methods.{abs_of}
use Rattle.lists.specs.Lists.{combos, upto}
use Rattle.geometry.specs.declared.shared.TheConstants.{SMALL}
use Rattle.geometry.specs.Determinant.{at}

-- ---- minors

-- what rows have in some columns
unfoldable pub pick : {A : Type 0} → Algebra A → List (List A) → List ℕ → List (List A)
pick o rows cols = map (λ row. map (λ j. get_or row j o.out) cols) rows

-- the determinant of a 2 × 2 matrix
unfoldable pub det2 : {A : Type 0} → Algebra A → List (List A) → A
det2 o m = let a = at o m in o.sub (o.mul (a 0 0) (a 1 1)) (o.mul (a 0 1) (a 1 0))

-- a determinant of rows for each choice of columns
unfoldable pub minors : {A : Type 0} → Algebra A → (List (List A) → A) → List (List A) → List (List ℕ) → List A
minors o det rows choices = map (λ cols. det (pick o rows cols)) choices

-- the choices of two of the six columns: 01, 02, .. 45
abbrev pub pairs : List (List ℕ)
pairs = combos (upto 6) 2

-- of three: 012, 013, .. 345
abbrev pub triples : List (List ℕ)
triples = combos (upto 6) 3

-- of four with column 0: 0123, 0124, .. 0345
abbrev pub bordered : List (List ℕ)
bordered = map (λ cols. 0 ∷ cols) (combos (1 ∷ 2 ∷ 3 ∷ 4 ∷ 5 ∷ []) 3)

-- the expansion along the row 0, 1, 1, 1, 1 past its 0, by the determinants of the other four minors
unfoldable pub past_zero : {A : Type 0} → Algebra A → List A → A
past_zero {A} o d =
    let term : A → ℕ → A = λ sign k. o.mul (o.mul sign o.one) (get_or d k o.out) in
    o.add (o.add (o.add (o.add o.zero (term o.minus_one 0)) (term o.one 1)) (term o.minus_one 2)) (term o.one 3)

-- ---- lengths

-- all of these are below `SMALL` in size; NaN is not
unfoldable pub all_small : List Float → Bool
all_small [] = true
all_small (x ∷ xs) = lt (abs_of x) SMALL && all_small xs
