-- Lists: what is kept of them and gathered from them, the choices of their elements, and the order of those. A simplex is a rising list of vertices. Definitions only.
use Rattle.std.specs.Prelude.{ℕ, zero, suc, ◌<◌, Bool, true, false, ◌&&◌, ◌||◌, cond, eqb}
use mathlib.Core.List.{List, [], ◌∷◌, ◌++◌, map, Memᴰ}

-- ---- elements

-- the elements that pass a test, in their order
unfoldable pub keep : {A : Type 0} → (A → Bool) → List A → List A
keep q [] = []
keep q (x ∷ xs) = let r = keep q xs in cond (q x) (x ∷ r) r

-- f of each element, one list after the other
unfoldable pub gather : {A B : Type 0} → (A → List B) → List A → List B
gather f [] = []
gather f (x ∷ xs) = f x ++ gather f xs

-- 0, 1, .. n - 1
unfoldable pub upto : ℕ → List ℕ
upto zero = []
upto (suc n) = upto n ++ n ∷ []

-- no element stands twice
abbrev pub Once : {A : Type 0} → List A → Type 0
Once [] = Unit {0}
Once (x ∷ xs) = (Memᴰ x xs → ⊥) × Once xs

-- ---- simplices

-- the choices of k elements, in the order of nested loops
unfoldable pub combos : List ℕ → ℕ → List (List ℕ)
combos [] zero = [] ∷ []
combos [] (suc k) = []
combos (x ∷ xs) zero = [] ∷ []
combos (x ∷ xs) (suc k) = map (λ t. x ∷ t) (combos xs k) ++ combos xs (suc k)

-- v is among the elements
unfoldable pub among : ℕ → List ℕ → Bool
among v [] = false
among v (x ∷ xs) = eqb v x || among v xs

-- all of s are among p
unfoldable pub within : List ℕ → List ℕ → Bool
within [] p = true
within (v ∷ s) p = among v p && within s p

-- the same as a proposition
abbrev pub Within : List ℕ → List ℕ → Type 0
Within s p = (v : ℕ) → Memᴰ v s → Memᴰ v p

-- each element is below all that follow it
abbrev pub Rising : List ℕ → Type 0
Rising [] = Unit {0}
Rising (x ∷ xs) = ((v : ℕ) → Memᴰ v xs → x < v) × Rising xs
