-- Two lists paired off from both ends. Assumes nothing.
use Prim.Native.Nat.{ℕ, zero, suc, ◌-◌, ◌<◌}
use mathlib.Core.List.{List, [], ◌∷◌, ◌++◌, map, map-id, reverse, zip, zip_with}
use mathlib.Core.Path.{◌≡◌, refl, sym, ap, ◌∙◌, subst}
use native.Mathlib.Omega.{arith}
use lib.ListN.{length, get_or}
use Rattle.std.proofs.lemmas.List.{get_or_append_left, get_or_push, length-append, get_or-reverse, length-reverse}
use Rattle.lists.specs.Lists.{upto}
use Rattle.lists.specs.Groups.{Below}
use Rattle.lists.proofs.Elements.{map-upto, map_same, mem-upto}

-- two lists of one length have as many pairs
length-beside : {A B : Type 0} (xs : List A) (ys : List B) → length ys ≡ length xs → length (zip xs ys) ≡ length xs
unfolding zip zip_with
length-beside [] ys e = refl
length-beside (x ∷ xs) [] e = absurd (omega (arith, e))
length-beside (x ∷ xs) (y ∷ ys) e = ap suc (length-beside xs ys (omega (arith, e)))

-- a pair has an element of each
get_or-beside : {A B : Type 0} (xs : List A) (ys : List B) (k : ℕ) (a : A) (b : B) → k < length xs → k < length ys → get_or (zip xs ys) k (a, b) ≡ (get_or xs k a, get_or ys k b)
unfolding zip zip_with
get_or-beside [] ys k a b h g = absurd (omega (arith, h))
get_or-beside (x ∷ xs) [] k a b h g = absurd (omega (arith, g))
get_or-beside (x ∷ xs) (y ∷ ys) zero a b h g = refl
get_or-beside (x ∷ xs) (y ∷ ys) (suc k) a b h g = get_or-beside xs ys k a b (omega (arith, h)) (omega (arith, g))

-- the reverse of ten elements beside ten others
pub ten-both_ends : {A B : Type 0} (xs : List A) (ys : List B) (a : A) (b : B) → length xs ≡ 10 → length ys ≡ 10
    → zip (reverse xs) ys ≡ map (λ k. (get_or xs (9 - k) a, get_or ys k b)) (upto 10)
ten-both_ends {A} xs ys a b tx ty =
    let r : length (reverse xs) ≡ 10 = length-reverse xs ∙ tx in
    let n : length (zip (reverse xs) ys) ≡ 10 = length-beside (reverse xs) ys (ty ∙ sym r) ∙ r in
    sym (map-id (zip (reverse xs) ys))
    ∙ map-upto (λ p. p) (zip (reverse xs) ys) (a, b) (a, b)
    ∙ ap (λ (m : ℕ). map (λ k. get_or (zip (reverse xs) ys) k (a, b)) (upto m)) n
    ∙ map_same (λ k. get_or (zip (reverse xs) ys) k (a, b)) (λ k. (get_or xs (9 - k) a, get_or ys k b)) (upto 10)
    (λ k m.
    let h : k < 10 = mem-upto 10 k m in
    let q : get_or (reverse xs) k a ≡ get_or xs (9 - k) a = get_or-reverse xs k a (omega (arith, tx, h)) ∙ ap (λ (n : ℕ). get_or xs (n - 1 - k) a) tx in
    get_or-beside (reverse xs) ys k a b (omega (arith, r, h)) (omega (arith, ty, h)) ∙ ap (λ (z : A). (z, get_or ys k b)) q)

-- what bounds a list with one element more bounds the list and the element
pub below-pushed : (xs : List ℕ) (x m : ℕ) → Below (xs ++ x ∷ []) m → Below xs m × (x < m)
below-pushed xs x m h =
    let n = length-append xs (x ∷ []) in (
      λ k l. subst (λ (v : ℕ). v < m) (get_or_append_left xs (x ∷ []) 0 k l) (h k (omega (arith, n, l))),
      subst (λ (v : ℕ). v < m) (get_or_push xs x 0 (length xs) refl) (h (length xs) (omega (arith, n))),
    )
