-- Places of edges among the free ones, and addends put into n rows of n, one after the other. Assumes nothing.
use Rattle.std.specs.Prelude.{Option, Some, None}
use Prim.Native.Nat.{ℕ, zero, suc, ◌+◌, ◌*◌, ◌≤◌, ◌<◌}
use mathlib.Core.Bool.{Bool, true, false, not, cond, ◌&&◌}
use mathlib.Core.List.{List, [], ◌∷◌, ◌++◌, map}
use mathlib.Core.Path.{◌≡◌, refl, ap, ◌∙◌}
use native.Mathlib.Omega.{arith}
use lib.Arith.{digits_lt}
use lib.Dec.{eqb, ltb}
use lib.Ieee.{Float, nan, neg, lt}
use lib.ListN.{length, get_or}
use Rattle.std.specs.List.{position_or_len}
use Rattle.std.specs.Option.{unwrap_or}
use Rattle.floats.specs.Ops.{◌⊗◌}
use Rattle.floats.specs.Methods.{abs_of}
use Rattle.lists.specs.Lists.{gather, upto}
use Rattle.lists.proofs.Tests.{Says, pass, fail, ltb-says, passes, fails, both-says}
use Rattle.lists.proofs.Elements.{gather_append, gather-map}
use Rattle.hinges.specs.Action.{area_limit}
use Rattle.second_derivatives.specs.SecondDerivatives.{row_of, slope_row}
use Rattle.second_derivatives.specs.Parts.{index_of, place_of, placed_in, placed}

-- ---- the search for a place

-- the number of elements before the first one that is looked for
pub index-position : (e : ℕ) (xs : List ℕ) → position_or_len (λ x. eqb x e) xs ≡ index_of e xs
unfolding index_of
index-position e [] = refl
index-position e (x ∷ xs) = go (eqb x e) (index-position e xs)
  where
    go : (b : Bool) → position_or_len (λ x. eqb x e) xs ≡ index_of e xs → cond (not b) (1 + position_or_len (λ x. eqb x e) xs) 0 ≡ cond b zero (suc (index_of e xs))
    go true r = refl
    go false r = omega (arith, r)

-- it is at most the number of all
pub index-within : (e : ℕ) (xs : List ℕ) → index_of e xs ≤ length xs
unfolding index_of
index-within e [] = omega arith
index-within e (x ∷ xs) = go (eqb x e) (index-within e xs)
  where
    go : (b : Bool) → index_of e xs ≤ length xs → cond b zero (suc (index_of e xs)) ≤ suc (length xs)
    go true r = omega arith
    go false r = omega (arith, r)

-- what a search for it answers, and how many elements there are where it finds nothing
pub index-found : (e : ℕ) (xs : List ℕ) (found : Option ℕ) (r : ℕ)
    → found ≡ cond (ltb (position_or_len (λ x. eqb x e) xs) (length xs)) (Some (position_or_len (λ x. eqb x e) xs)) None → r ≡ unwrap_or found (length xs) → r ≡ index_of e xs
index-found e xs found r f u = u ∙ ap (λ o. unwrap_or o (length xs)) f ∙ go (ltb-says (position_or_len (λ x. eqb x e) xs) (length xs)) ∙ index-position e xs
  where
    p : ℕ
    p = position_or_len (λ x. eqb x e) xs

    go : {b : Bool} → Says (p < length xs) b → unwrap_or (cond b (Some p) None) (length xs) ≡ p
    go (pass h) = refl
    go (fail n) = omega (arith, index-position e xs, index-within e xs)

-- ---- one addend

-- a row and a column have a place in the flat matrix
pub place-below : (n i j m : ℕ) → n * n ≤ m → i < n → j < n → i * n + j < m
place-below n i j m l h k = let p : i * n + j < n * n = digits_lt h k in omega (arith, p, l)

-- a row and a column of the matrix
pub placed-there : (n i j : ℕ) (x : Float) → i < n → j < n → placed_in n i j x ≡ (i * n + j, x) ∷ []
unfolding placed_in
placed-there n i j x h k = rw (passes (both-says (ltb-says i n) (ltb-says j n)) (h, k)) refl

-- the same by the place that was found
pub placed_at : (n i j : ℕ) (x : Float) {k : ℕ} → Some k ≡ place_of n i j → placed_in n i j x ≡ (k, x) ∷ []
unfolding placed_in place_of
placed_at n i j x {k} e = go (ltb i n && ltb j n) e
  where
    go : (b : Bool) → Some k ≡ cond b (Some (i * n + j)) None → cond {A = List (ℕ × Float)} b ((i * n + j, x) ∷ []) [] ≡ (k, x) ∷ []
    go true e = let q : i * n + j ≡ k = cc in ap (λ (m : ℕ). (m, x) ∷ []) q
    go false e = absurd (let z : ◌≡◌ {A = ℕ} 0 1 = cc in omega arith)

-- no such row or column
pub placed_nowhere : (n i j : ℕ) (x : Float) → None ≡ place_of n i j → placed_in n i j x ≡ []
unfolding placed_in place_of
placed_nowhere n i j x e = go (ltb i n && ltb j n) e
  where
    go : (b : Bool) → None ≡ cond b (Some (i * n + j)) None → cond {A = List (ℕ × Float)} b ((i * n + j, x) ∷ []) [] ≡ []
    go true e = absurd (let z : ◌≡◌ {A = ℕ} 0 1 = cc in omega arith)
    go false e = refl

-- no row of the first place
pub placed-no_row : (n i j : ℕ) (x : Float) → n ≤ i → placed_in n i j x ≡ []
unfolding placed_in
placed-no_row n i j x h = rw (fails (both-says (ltb-says i n) (ltb-says j n)) (λ w. omega (arith, w.0, h))) refl

-- ---- many addends

-- addends after others
pub placed-append : (n : ℕ) (at : List ℕ) (xs ys : List ((ℕ × ℕ) × Float)) → placed n at (xs ++ ys) ≡ placed n at xs ++ placed n at ys
unfolding placed
placed-append n at xs ys = gather_append (λ a. placed_in n (get_or at a.0.0 0) (get_or at a.0.1 0) a.1) xs ys

-- addends one by one
pub placed-map : {A : Type 0} (n : ℕ) (at : List ℕ) (g : A → (ℕ × ℕ) × Float) (xs : List A)
    → placed n at (map g xs) ≡ gather (λ x. placed_in n (get_or at (g x).0.0 0) (get_or at (g x).0.1 0) (g x).1) xs
unfolding placed
placed-map n at g xs = gather-map (λ a. placed_in n (get_or at a.0.0 0) (get_or at a.0.1 0) a.1) g xs

-- addends list by list
pub placed-gather : {A : Type 0} (n : ℕ) (at : List ℕ) (g : A → List ((ℕ × ℕ) × Float)) (xs : List A) → placed n at (gather g xs) ≡ gather (λ x. placed n at (g x)) xs
unfolding placed gather
placed-gather n at g [] = refl
placed-gather n at g (x ∷ xs) = placed-append n at (g x) (gather g xs) ∙ ap (λ (r : List (ℕ × Float)). placed n at (g x) ++ r) (placed-gather n at g xs)

-- ---- rows

gather-nothing : {A B : Type 0} (f : A → List B) (xs : List A) → ((x : A) → f x ≡ []) → gather f xs ≡ []
unfolding gather
gather-nothing f [] h = refl
gather-nothing f (x ∷ xs) h = rw (h x) (gather-nothing f xs h)

-- the row of an edge that is not free
pub row_absent : (n : ℕ) (at : List ℕ) (slope : Float) (jac : List Float) (k e : ℕ) → n ≤ get_or at e 0 → placed n at (slope_row slope jac k e) ≡ []
unfolding slope_row placed gather
row_absent n at slope jac k e h = go (lt (abs_of slope) area_limit)
  where
    go : (b : Bool) → placed n at (cond b [] (row_of slope jac k e)) ≡ []
    go true = refl
    go false =
        placed-map n at (λ f. ((e, f), slope ⊗ neg (get_or jac (10 * k + f) nan))) (upto 10)
        ∙ gather-nothing (λ f. placed_in n (get_or at e 0) (get_or at f 0) (slope ⊗ neg (get_or jac (10 * k + f) nan))) (upto 10) (λ f. placed-no_row n (get_or at e 0) (get_or at f 0) (slope ⊗ neg (get_or jac (10 * k + f) nan)) h)
