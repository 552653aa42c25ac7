-- Two lists side by side. Assumes nothing.
use mathlib.Core.List.{List, [], ◌∷◌, zip, zip_with}
use mathlib.Core.Logic.{◌⊎◌, ⊎_elim}
use mathlib.Core.Path.{◌≡◌, refl}
use native.Mathlib.Omega.{arith}
use lib.ListN.{length}

-- where one of them has ended, nothing is left of both
pub zip-ended : {A B : Type 0} (xs : List A) (ys : List B) → (length xs ≡ 0) ⊎ (length ys ≡ 0) → zip xs ys ≡ []
unfolding zip zip_with
zip-ended [] ys e = refl
zip-ended (x ∷ xs) [] e = refl
zip-ended (x ∷ xs) (y ∷ ys) e = absurd (⊎_elim (λ h. omega (arith, h)) (λ h. omega (arith, h)) e)
