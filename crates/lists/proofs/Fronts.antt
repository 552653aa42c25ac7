-- A test of a list that goes from the front: what a loop over the list keeps. Assumes nothing.
use Prim.Native.Nat.{ℕ, ◌+◌, ◌≤◌, ◌<◌}
use mathlib.Core.Path.{◌≡◌, refl, ◌∙◌}
use mathlib.Core.Bool.{Bool, true, false, ◌||◌}
use mathlib.Core.List.{List, [], ◌∷◌}
use native.Mathlib.Numerals.{add-one}
use lib.ListN.{length, get_or, drop, drop_of_length-le}
use lib.Seq.{drop-cons}

-- f holds of a list if t holds of its first element and the rest, or f of the rest
module _ (f : List ℕ → Bool) (t : ℕ → List ℕ → Bool) (eq : (x : ℕ) (l : List ℕ) → f (x ∷ l) ≡ (t x l || f l)) where
  pub some-here : (s : List ℕ) (i : ℕ) → i < length s → t (get_or s i 0) (drop (i + 1) s) ≡ true → f s ≡ f (drop i s) → f s ≡ true
  some-here s i h e p = p ∙ rw (drop-cons s i 0 h) (eq _ _ ∙ rw (← add-one i, e) refl)

  pub some_next : (s : List ℕ) (i : ℕ) → i < length s → t (get_or s i 0) (drop (i + 1) s) ≡ false → f s ≡ f (drop i s) → f s ≡ f (drop (i + 1) s)
  some_next s i h e p = p ∙ rw (drop-cons s i 0 h) (eq _ _ ∙ rw (← add-one i, e) refl)

  pub some-none : (s : List ℕ) (i : ℕ) → length s ≤ i → f [] ≡ false → f s ≡ f (drop i s) → f s ≡ false
  some-none s i h e p = p ∙ rw (drop_of_length-le s h) e
