-- The fifteen cofactors by the minors of all four of the rows 1 to 5, the border's column among theirs. Assumes nothing.
use Prim.Native.Nat.{ℕ, ◌+◌, ◌<◌}
use mathlib.Core.Path.{◌≡◌, refl, sym, ap, ap₂, ◌∙◌}
use mathlib.Core.Bool.{true}
use mathlib.Core.List.{List, [], ◌∷◌}
use lib.Dec.{lit<}
use lib.ListN.{length, get_or}
use lib.Ieee.{Float, nan, of_bits, mul}
use Rattle.lists.specs.Lists.{combos, upto}
use Rattle.floats.specs.Algebra.{doubles}
use Rattle.floats.specs.Ops.{◌⊕◌, ◌⊗◌, zero, one}
use Rattle.floats.proofs.Magnitude.{Mag}
use Rattle.floats.proofs.Zeros.{zero-term}
use Rattle.geometry.specs.Determinant.{table, at, skip, minor, sign, expand, det4, det5, cofactor}
use Rattle.geometry.specs.CayleyMenger.{cm, cofactors}
use Rattle.geometry.specs.Minors.{pick, minors, bordered, past_zero, all_small}
use Rattle.geometry.proofs.Small.{first-finite}

-- the expansion along the row 0, 1, 1, 1, 1, with the determinant that the 0 multiplies
unfoldable whole : Float → List Float → Float
whole first d =
    let term : Float → ℕ → Float = λ sign k. sign ⊗ one ⊗ get_or d k nan in
    zero ⊕ one ⊗ zero ⊗ first ⊕ term doubles.minus_one 0 ⊕ term one 1 ⊕ term doubles.minus_one 2 ⊕ term one 3

-- it is finite, so that its term changes nothing
past-zero-is : (first : Float) (k : ℕ) (d : List Float) → Mag first k → past_zero doubles d ≡ whole first d
unfolding past_zero whole mul of_bits
past-zero-is first k d h =
    let term : Float → ℕ → Float = λ sign k. sign ⊗ one ⊗ get_or d k nan in
    ap (λ (x : Float). x ⊕ term doubles.minus_one 0 ⊕ term one 1 ⊕ term doubles.minus_one 2 ⊕ term one 3) (sym (zero-term first k h))

-- the minors of four rows of a matrix
abbrev pub of_rows : List (List Float) → ℕ → ℕ → ℕ → ℕ → List Float
of_rows m i j k l = let row : ℕ → List Float = λ n. get_or m n [] in minors doubles (det4 doubles) (row i ∷ row j ∷ row k ∷ row l ∷ []) bordered

-- a cofactor by the sign of its place and four minors of a list
abbrev by_minors : Float → List Float → ℕ → ℕ → ℕ → ℕ → Float
by_minors sign m i j k l = sign ⊗ past_zero doubles (get_or m i nan ∷ get_or m j nan ∷ get_or m k nan ∷ get_or m l nan ∷ [])

-- the fifteen, by the minors of the rows but one: but 1, but 2, .. but 5
abbrev pub fifteen : List Float → List Float → List Float → List Float → List Float → List Float
fifteen a b c d e =
    let plus = by_minors one in
    let minus = by_minors doubles.minus_one in
    plus a 9 8 7 6 ∷ minus a 9 5 4 3 ∷ plus a 8 5 2 1 ∷ minus a 7 4 2 0 ∷ plus a 6 3 1 0
    ∷ plus b 9 5 4 3 ∷ minus b 8 5 2 1 ∷ plus b 7 4 2 0 ∷ minus b 6 3 1 0
    ∷ plus c 8 5 2 1 ∷ minus c 7 4 2 0 ∷ plus c 6 3 1 0
    ∷ plus d 7 4 2 0 ∷ minus d 6 3 1 0
    ∷ plus e 6 3 1 0
    ∷ []

module _ (s : List Float) (long : length s ≡ 10) (small : all_small s ≡ true) where
  -- the first determinant in the expansion of a cofactor
  abbrev first : ℕ → ℕ → Float
  first i j = det4 doubles (minor doubles 4 (minor doubles 5 (cm doubles s) i j) 0 0)

  -- a cofactor that expands so is worked out past the 0
  cofactor-is : (i j : ℕ) → i < 6 → j < 6 → (d : List Float) → det5 doubles (minor doubles 5 (cm doubles s) i j) ≡ whole (first i j) d → sign doubles (i + j) ⊗ past_zero doubles d ≡ cofactor doubles (cm doubles s) i j
  unfolding cofactor
  cofactor-is i j hi hj d e = ap (λ (x : Float). sign doubles (i + j) ⊗ x) (past-zero-is (first i j) _ d (first-finite s long small i j hi hj) ∙ sym e)

  -- and the fifteen are, each with its own rows and columns
  fifteen-is : let o = of_rows (cm doubles s) in fifteen (o 2 3 4 5) (o 1 3 4 5) (o 1 2 4 5) (o 1 2 3 5) (o 1 2 3 4) ≡ cofactors doubles s
  unfolding cofactors det5 expand sign minor table skip at cm whole minors pick combos upto
  fifteen-is =
      ap₂ ◌∷◌ (cofactor-is 1 1 (lit< tt) (lit< tt) _ refl)
      (ap₂ ◌∷◌ (cofactor-is 1 2 (lit< tt) (lit< tt) _ refl)
      (ap₂ ◌∷◌ (cofactor-is 1 3 (lit< tt) (lit< tt) _ refl)
      (ap₂ ◌∷◌ (cofactor-is 1 4 (lit< tt) (lit< tt) _ refl)
      (ap₂ ◌∷◌ (cofactor-is 1 5 (lit< tt) (lit< tt) _ refl)
      (ap₂ ◌∷◌ (cofactor-is 2 2 (lit< tt) (lit< tt) _ refl)
      (ap₂ ◌∷◌ (cofactor-is 2 3 (lit< tt) (lit< tt) _ refl)
      (ap₂ ◌∷◌ (cofactor-is 2 4 (lit< tt) (lit< tt) _ refl)
      (ap₂ ◌∷◌ (cofactor-is 2 5 (lit< tt) (lit< tt) _ refl)
      (ap₂ ◌∷◌ (cofactor-is 3 3 (lit< tt) (lit< tt) _ refl)
      (ap₂ ◌∷◌ (cofactor-is 3 4 (lit< tt) (lit< tt) _ refl)
      (ap₂ ◌∷◌ (cofactor-is 3 5 (lit< tt) (lit< tt) _ refl)
      (ap₂ ◌∷◌ (cofactor-is 4 4 (lit< tt) (lit< tt) _ refl)
      (ap₂ ◌∷◌ (cofactor-is 4 5 (lit< tt) (lit< tt) _ refl)
      (ap₂ ◌∷◌ (cofactor-is 5 5 (lit< tt) (lit< tt) _ refl)
      refl))))))))))))))

  -- the same of lists that hold those minors
  pub fifteen-of : (m : List (List Float)) (a b c d e : List Float) → m ≡ cm doubles s → a ≡ of_rows m 2 3 4 5 → b ≡ of_rows m 1 3 4 5 → c ≡ of_rows m 1 2 4 5 → d ≡ of_rows m 1 2 3 5 → e ≡ of_rows m 1 2 3 4 → fifteen a b c d e ≡ cofactors doubles s
  fifteen-of m a b c d e h ha hb hc hd he = rw (ha, hb, hc, hd, he, h) fifteen-is
