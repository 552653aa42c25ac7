-- Folds over one element more, and of functions that agree. Assumes nothing.
use Prim.Native.Nat.{ℕ, ◌+◌, ◌<◌}
use mathlib.Core.Path.{◌≡◌, refl, ap, ◌∙◌}
use mathlib.Core.List.{List, [], ◌∷◌, map, map-append, foldl, foldl-append, Memᴰ}
use native.Mathlib.Numerals.{add-one}
use lib.ListN.{length, get_or, take}
use lib.Seq.{take-suc}
use Rattle.lists.specs.Lists.{upto}

-- a fold over one element more of a list
pub fold_next : {A B S : Type 0} (f : A → B) (g : S → B → S) (s : S) (xs : List A) (k : ℕ) (d : A) → k < length xs
    → foldl g s (map f (take (k + 1) xs)) ≡ g (foldl g s (map f (take k xs))) (f (get_or xs k d))
fold_next {A} {B} {S} f g s xs k d h =
    ap (λ (l : List A). foldl g s (map f l)) (ap (λ (n : ℕ). take n xs) (add-one k) ∙ take-suc xs k d h)
    ∙ ap (foldl g s) (map-append f (take k xs) (get_or xs k d ∷ []))
    ∙ foldl-append g s (map f (take k xs)) (f (get_or xs k d) ∷ [])

-- a fold over one number more
pub fold-upto : {S : Type 0} (g : S → ℕ → S) (s : S) (k : ℕ) → foldl g s (upto (k + 1)) ≡ g (foldl g s (upto k)) k
unfolding upto
fold-upto {S} g s k = ap (λ (n : ℕ). foldl g s (upto n)) (add-one k) ∙ foldl-append g s (upto k) (k ∷ [])

-- functions that agree on a list's elements
pub fold_same : {A S : Type 0} (f g : S → A → S) (s : S) (xs : List A) → ((s : S) (a : A) → Memᴰ a xs → f s a ≡ g s a) → foldl f s xs ≡ foldl g s xs
fold_same f g s [] h = refl
fold_same {A} {S} f g s (x ∷ xs) h = ap (λ (u : S). foldl f u xs) (h s x (Memᴰ.head refl)) ∙ fold_same f g (g s x) xs (λ u a m. h u a (Memᴰ.tail m))
